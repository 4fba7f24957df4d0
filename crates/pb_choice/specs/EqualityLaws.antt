-- What the clauses of an equality say, and what their steps show.
use Rattle.std.specs.Prelude.{◌≡◌, ◌≤◌, ◌+◌, ◌-◌, ◌*◌, ◌^◌, ℕ, true, false, List, All, length, map}
use Rattle.pb_base.specs.declared.literal.Lit.{Lit}
use Rattle.pb_base.specs.declared.problem.Raw.{Raw}
use Rattle.pb_base.specs.Literals.{Assignment, AgreeBelow, IsModel}
use Rattle.pb_norm.specs.declared.halves.Half.TheVariants as half
use Rattle.pb_norm.specs.ClausePropagation.{ClausesPropagate}
use Rattle.pb_norm.specs.Constraints.{Constraint, Holds, IsLinear, weight}
use Rattle.pb_norm.specs.Halves.{half_of}
use Rattle.pb_norm.specs.Reduction.{opposite}
use Rattle.pb_steps.specs.Database.{Database}
use Rattle.pb_steps.specs.Sayable.{IsSayable}
use Rattle.pb_derive.specs.Derivations.{Derives}
use Rattle.pb_family.specs.Derivations.{AreOriginal, MayStart}
use Rattle.pb_family.specs.Families.{NamesOnly, VarsBelow}
use Rattle.pb_totalizer.specs.ExactOutputs.{ReachesOutputs}
use Rattle.pb_base.specs.declared.options.Options.{Options}
use Rattle.pb_choice.specs.Choice.{IsSentToAdder}
use Rattle.pb_choice.specs.Equals.{equality_clauses, equality_count, equality_fresh, is_joint, literals_asked}
use Rattle.pb_choice.specs.EqualitySteps.{equality_steps}
use Rattle.pb_choice.specs.Readiness.{AreBothBrief, IsModest, IsReadyWith, LeavesIds}

-- ---- halves

-- the two halves of one equality: the upper one is over the negated literals, and where the lower one asks for anything, it asks for what that leaves
pub record AreHalves (lower upper : Constraint) : Type 0 where
  pub turned : upper.terms ≡ map opposite lower.terms
  pub degrees : 1 ≤ lower.degree → upper.degree ≡ weight lower.terms - lower.degree

-- those of a statement are
abbrev pub StatementsHaveHalves : Type 0
StatementsHaveHalves = (s : Raw) → AreHalves (half_of half.Lower s) (half_of half.Upper s)

abbrev pub BothHold : Constraint → Constraint → Assignment → Type 0
BothHold c d a = Holds a c × Holds a d

-- in normal form
pub record IsEquality (lower upper : Constraint) : Type 0 where
  pub lower_linear : IsLinear lower
  pub upper_linear : IsLinear upper
  pub halves : AreHalves lower upper

-- ---- the clauses

-- Clauses that say what both say: under a model of them both hold; an assignment under which both hold extends over the fresh variables to a model; their
-- literals are of the variables of the first or of fresh ones; and they are so many.
pub record EncodesBoth (c d : Constraint) (first fresh count : ℕ) (clauses : List (List Lit)) : Type 0 where
  pub sound : (a : Assignment) → IsModel a clauses → BothHold c d a
  pub extends : (a : Assignment) → BothHold c d a → (b : Assignment) × AgreeBelow first a b × IsModel b clauses
  pub names : NamesOnly c.terms first fresh clauses
  pub counts : length clauses ≡ count

abbrev pub EqualitiesEncode : Type 0
EqualitiesEncode = (o : Options) (lower upper : Constraint) (first : ℕ) → IsEquality lower upper → VarsBelow first lower.terms
    → EncodesBoth lower upper first (equality_fresh o lower upper) (equality_count o lower upper) (equality_clauses o lower upper first)

-- a half of whose clauses unit propagation may miss what it forces
abbrev pub IsHalfSentToAdder : Options → Constraint → Constraint → Type 0
IsHalfSentToAdder o lower c = (is_joint o lower ≡ false) × IsSentToAdder o c

-- unit propagation over the clauses reaches all that each half forces, but for such a half
pub record ForcesHalves (o : Options) (lower upper : Constraint) (clauses : List (List Lit)) : Type 0 where
  pub lower_forces : ¬ IsHalfSentToAdder o lower lower → ClausesPropagate clauses (λ a. Holds a lower)
  pub upper_forces : ¬ IsHalfSentToAdder o lower upper → ClausesPropagate clauses (λ a. Holds a upper)

abbrev pub EqualitiesForce : Type 0
EqualitiesForce = (o : Options) (lower upper : Constraint) (first : ℕ) → IsEquality lower upper → VarsBelow first lower.terms → ForcesHalves o lower upper (equality_clauses o lower upper first)

-- of an equality that is encoded as one it reaches besides all that both halves force together, and each output of the totalizer, either way, that its leaves decide
pub record ForcesBoth (lower upper : Constraint) (first : ℕ) (clauses : List (List Lit)) : Type 0 where
  pub both_force : ClausesPropagate clauses (BothHold lower upper)
  pub outputs : ReachesOutputs clauses (literals_asked lower) first

abbrev pub JointEqualitiesForce : Type 0
JointEqualitiesForce = (o : Options) (lower upper : Constraint) (first : ℕ) → IsEquality lower upper → is_joint o lower ≡ true → ForcesBoth lower upper first (equality_clauses o lower upper first)

-- ---- the steps

-- in normal form, and no greater than those of a problem
pub record IsModestEquality (lower upper : Constraint) : Type 0 where
  pub lower_modest : IsModest lower
  pub upper_modest : IsModest upper
  pub halves : AreHalves lower upper

-- from a database in which both halves stand, the steps are allowed one after the other and put out the clauses
abbrev pub EqualitiesDerive : Type 0
EqualitiesDerive = (o : Options) (c d : Constraint) (first lower upper : ℕ) (db : Database) → IsModestEquality c d → VarsBelow first c.terms
    → IsReadyWith c first (equality_fresh o c d) lower db → IsReadyWith d first (equality_fresh o c d) upper db
    → Derives db (equality_steps o c d first lower upper db.next) (equality_clauses o c d first) (first + equality_fresh o c d)

-- they are few
abbrev pub EqualitiesHaveFewSteps : Type 0
EqualitiesHaveFewSteps = (o : Options) (c d : Constraint) (first lower upper next : ℕ) → IsModestEquality c d
    → length (equality_steps o c d first lower upper next) ≤ 8 * (equality_fresh o c d + equality_count o c d) + 8

-- lines can say them
abbrev pub EqualitiesAreSayable : Type 0
EqualitiesAreSayable = (o : Options) (c d : Constraint) (first lower upper next : ℕ) → IsModestEquality c d → equality_count o c d ≤ 2 ^ 56 → AreOriginal first c.terms
    → MayStart first (equality_fresh o c d) lower next → MayStart first (equality_fresh o c d) upper next → LeavesIds (equality_steps o c d first lower upper) next
    → All IsSayable (equality_steps o c d first lower upper next)

-- and these lines are short
abbrev pub EqualitiesAreBrief : Type 0
EqualitiesAreBrief = (o : Options) (c d : Constraint) (first lower upper next : ℕ) → IsModestEquality c d → equality_count o c d ≤ 2 ^ 56 → AreOriginal first c.terms
    → MayStart first (equality_fresh o c d) lower next → MayStart first (equality_fresh o c d) upper next → LeavesIds (equality_steps o c d first lower upper) next
    → length c.terms ≤ 2 ^ 21 → AreBothBrief (length c.terms) (equality_fresh o c d) (equality_count o c d) (equality_steps o c d first lower upper next)
