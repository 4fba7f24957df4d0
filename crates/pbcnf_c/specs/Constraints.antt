-- What the calls over statements in columns answer. Our own.
use Rattle.std.specs.Prelude.{ℕ, ℤ, pos, Bool, ◌≡◌, ◌<◌, ◌+◌, ◌^◌, ◌↔◌, List, [], ◌∷◌, flat_map, length, take, Some, None}
use Rattle.pb_base.specs.declared.limit.LimitKind.{LimitKind}
use Rattle.pb_base.specs.declared.literal.Lit.{Lit}
use Rattle.pb_base.specs.declared.options.Options.{Options}
use Rattle.pb_base.specs.declared.problem.Raw.{Raw}
use Rattle.pb_base.specs.Literals.{assigned_by}
use Rattle.pb_base.specs.Problems.{IsWithinLimits}
use Rattle.pb_check.specs.Walk.{Accepts}
use Rattle.pb_columns.specs.Columns.{columns_at, conditions_in, problem_of, ArePosedOf, Columns, StopsColumns}
use Rattle.pb_columns.specs.Conditions.{HoldUnder}
use Rattle.pb_columns.specs.declared.fault.ColumnFault.TheVariants as fault
use Rattle.pb_columns.specs.declared.sum.PbcnfSum.{PbcnfSum}
use Rattle.pb_dimacs.specs.CnfReading.{clause_numbers}
use Rattle.pb_dimacs.specs.CnfText.{cnf_text}
use Rattle.pb_dimacs.specs.CnfWholeLaws.{Tells}
use Rattle.pb_encode.specs.Clauses.{clauses_from, fresh_total}
use Rattle.pb_encode.specs.Encodings.{derivation_text}
use Rattle.pb_encode.specs.Groups.{statement_groups}
use Rattle.pb_encode.specs.Models.{ForceEach, IsModelOver}
use Rattle.pb_encode.specs.Summaries.{IsEncodable, IsOver}
use Rattle.pb_suite.specs.declared.outcome.Outcome.{Outcome}
use Rattle.pb_suite.specs.declared.outcome.Outcome.TheVariants as outcome
use Rattle.pbcnf_c.specs.declared.constraint.PbcnfSide.{PbcnfSide}
use Rattle.pbcnf_c.specs.declared.options.PbcnfOptions.{PbcnfOptions}
use Rattle.pbcnf_c.specs.declared.ready.Ready.{Ready}
use Rattle.pbcnf_c.specs.declared.size.PbcnfSize.{PbcnfSize}
use Rattle.pbcnf_c.specs.Choices.{options_of}
use Rattle.pbcnf_c.specs.Rooms.{Ends}
use Rattle.pbcnf_c.specs.Sizes.{no_size, problem_size}

-- a problem that is ready is the one of these statements, under the options that the numbers choose
pub record IsReadyOf (chosen : PbcnfOptions) (c : Columns) (r : Ready) : Type 0 where
  pub statements : List Raw
  pub chosen_are : options_of chosen ≡ Some r.options
  pub given : ArePosedOf c statements
  pub problem_is : r.problem ≡ problem_of c.first statements

-- In this order, with the number of the constraint to blame, which is 0 where no single one is: the numbers choose no options; the columns give no statements; what is made of them passes a limit. Or memory was wanting.
pub data StopsConstraints (chosen : PbcnfOptions) (c : Columns) : ℕ → Outcome → Type 0 where
  usage : options_of chosen ≡ None → StopsConstraints chosen c 0 outcome.Usage
  unfit : (o : Options) (at : ℕ) → options_of chosen ≡ Some o → StopsColumns c (fault.Unfit at) → StopsConstraints chosen c at outcome.Usage
  limited : (o : Options) (which : LimitKind) (at : ℕ) → options_of chosen ≡ Some o → StopsColumns c (fault.Limit which at) → StopsConstraints chosen c at (outcome.Limit None which None)
  over : (o : Options) (ss : List Raw) (which : LimitKind) → options_of chosen ≡ Some o → ArePosedOf c ss → IsWithinLimits (problem_of c.first ss) → IsOver which o (problem_of c.first ss) → StopsConstraints chosen c 0 (outcome.Limit None which None)
  no_memory : StopsConstraints chosen c 0 outcome.NoMemory

-- The numbers choose these options, the columns give these statements, with their conditions in them, and neither they nor what is made of them passes a limit.
pub record AreAdmitted (chosen : PbcnfOptions) (c : Columns) (o : Options) (ss : List Raw) : Type 0 where
  pub chosen_are : options_of chosen ≡ Some o
  pub given : ArePosedOf c ss
  pub within : IsWithinLimits (problem_of c.first ss)
  pub encodable : IsEncodable o (problem_of c.first ss)

-- The integers are those of the clauses of the statements, one after another: of the one half of each, or of both halves of an equality, as they are planned. The fresh variables of each stand behind those of the one before, from the first one on. Their models, cut to the variables below it, are the values under which each constraint holds whose condition is true or that has none, and unit propagation over them reaches what each half forces that is not sent to the adder. The number behind the last variable may be the first fresh one of what comes next.
pub record AreClausesOf (chosen : PbcnfOptions) (c : Columns) (integers : List ℤ) (size : PbcnfSize) : Type 0 where
  pub options : Options
  pub statements : List Raw
  pub clauses : List (List Lit)
  pub admitted : AreAdmitted chosen c options statements
  pub clauses_are : clauses ≡ clauses_from options c.first (statement_groups statements)
  pub integers_are : integers ≡ flat_map clause_numbers clauses
  pub fresh_are : size.vars ≡ size.original + fresh_total options (statement_groups statements)
  pub original_are : size.original + 1 ≡ c.first
  pub vars_fit : size.vars < 2 ^ 31
  pub count_is : size.clauses ≡ length clauses
  pub length_is : size.length ≡ length integers
  pub models : (values : List Bool) → length values ≡ size.original → HoldUnder (assigned_by values) (conditions_in c.sums) admitted.given.asked ↔ ((model : List Bool) × IsModelOver size.vars clauses model × (take size.original model ≡ values))
  pub forces : ForceEach options clauses c.first (statement_groups statements)

-- The bytes are the derivation of these clauses, which is accepted for the problem of these statements alone beside each text that tells the clauses, as their CNF text does.
pub record IsDerivationOf (chosen : PbcnfOptions) (c : Columns) (proof : List ℕ) (size : PbcnfSize) : Type 0 where
  pub options : Options
  pub statements : List Raw
  pub clauses : List (List Lit)
  pub admitted : AreAdmitted chosen c options statements
  pub clauses_are : clauses ≡ clauses_from options c.first (statement_groups statements)
  pub told : Tells (cnf_text size.vars clauses) size.vars clauses
  pub accepted : (cnf : List ℕ) → Tells cnf size.vars clauses → Accepts (problem_of c.first statements) cnf proof
  pub exact : proof ≡ derivation_text options (problem_of c.first statements)
  pub size_is : size ≡ problem_size options (problem_of c.first statements) (length proof)

-- ---- the calls

-- what is made, where nobody is to blame
pub record IsUnblamed {X : Type 0} (Made : List X → PbcnfSize → Type 0) (at : ℕ) (items : List X) (told : PbcnfSize) : Type 0 where
  pub made : Made items told
  pub nobody : at ≡ 0

-- The integers are put, or their number told, or why there are none, and the number of the constraint to blame.
abbrev pub ConstrainsInto : PbcnfOptions → Columns → List ℤ → List ℤ → PbcnfSize → ℕ → Outcome → Type 0
ConstrainsInto chosen c old new size at answer = Ends (IsUnblamed (AreClausesOf chosen c) at) (StopsConstraints chosen c at) no_size old new size answer

-- so it is of their derivation
abbrev pub ConstraintsDeriveInto : PbcnfOptions → Columns → List ℕ → List ℕ → PbcnfSize → ℕ → Outcome → Type 0
ConstraintsDeriveInto chosen c old new size at answer = Ends (IsUnblamed (IsDerivationOf chosen c) at) (StopsConstraints chosen c at) no_size old new size answer

-- ---- of one

-- what stands beside the one sum, which has all terms
abbrev pub one_sum : PbcnfSide → ℕ → PbcnfSum
one_sum side terms = record { relation = side.relation; condition = pos 0; terms = terms; right_low = side.right_low; right_high = side.right_high }

abbrev pub one_column : List ℕ → List ℤ → PbcnfSide → Columns
one_column words literals side = columns_at words literals (one_sum side (length literals) ∷ []) side.first

-- so it is of the column of one, whichever number tells that it is to blame
abbrev pub ConstrainsOneInto : PbcnfOptions → List ℕ → List ℤ → PbcnfSide → List ℤ → List ℤ → PbcnfSize → Outcome → Type 0
ConstrainsOneInto chosen words literals side old new size answer = (at : ℕ) × ConstrainsInto chosen (one_column words literals side) old new size at answer

abbrev pub OneDerivesInto : PbcnfOptions → List ℕ → List ℤ → PbcnfSide → List ℕ → List ℕ → PbcnfSize → Outcome → Type 0
OneDerivesInto chosen words literals side old new size answer = (at : ℕ) × ConstraintsDeriveInto chosen (one_column words literals side) old new size at answer
