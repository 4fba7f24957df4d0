-- Statements in numbers: their terms in columns, and in one more what stands beside each sum. Our own.
use Rattle.std.specs.Prelude.{ℕ, ℤ, pos, ◌≡◌, ◌≤◌, ◌<◌, ◌+◌, ◌-◌, ◌*◌, ◌^◌, ◌==◌, ◌⊎◌, All, List, [], ◌∷◌, ◌++◌, length, map, take, slice_index, slice_index_or, Option, Some, None, sum_by, if◌then◌else◌}
use Rattle.std.specs.Int.RustNames.{unsigned_abs}
use Rattle.std.specs.List.{range_with_len}
use Rattle.std.specs.Option.{option_map}
use Rattle.pb_base.specs.declared.heads.Head.{Head}
use Rattle.pb_base.specs.declared.limit.LimitKind.TheVariants as limit
use Rattle.pb_base.specs.declared.literal.Term.{Term}
use Rattle.pb_base.specs.declared.problem.Problem.{Problem}
use Rattle.pb_base.specs.declared.problem.Raw.{Raw}
use Rattle.pb_base.specs.declared.problem.Relation.{Relation}
use Rattle.pb_base.specs.declared.problem.Relation.TheVariants as relation
use Rattle.pb_base.specs.Problems.{StaysBelow}
use Rattle.pb_base.specs.Statements.{statements_in}
use Rattle.pb_dimacs.specs.CnfReading.{literal_number}
use Rattle.pb_columns.specs.declared.fault.ColumnFault.{ColumnFault}
use Rattle.pb_columns.specs.declared.fault.ColumnFault.TheVariants as fault
use Rattle.pb_columns.specs.declared.sum.PbcnfSum.{PbcnfSum}
use Rattle.pb_columns.specs.Conditions.{most_terms, posed, posed_under, weight_limit, AllUnder}
use Rattle.pb_columns.specs.Words.{signed, wide}

-- ---- numbers

abbrev pub relation_of : ℕ → Option Relation
relation_of n = if n == 0 then Some relation.AtLeast else if n == 1 then Some relation.AtMost else if n == 2 then Some relation.Equal else None

-- the number of a literal of a variable below the first fresh one
pub record IsBelow (first : ℕ) (number : ℤ) : Type 0 where
  pub from : 1 ≤ unsigned_abs number
  pub to : unsigned_abs number < first

-- as many words as literals, or twice as many
abbrev pub HasWords : List ℕ → ℕ → Type 0
HasWords words count = (length words ≡ count) ⊎ (length words ≡ 2 * count)

-- the coefficient at a place is one word, or two
abbrev pub coefficient_at : List ℕ → ℕ → ℕ → ℤ
coefficient_at words count place = if length words == count then signed (slice_index words place) else wide (slice_index words (2 * place)) (slice_index words (2 * place + 1))

-- the first so many terms: their coefficients and the numbers of their literals, which are of variables below the first fresh one
pub record AreTermsOf (words : List ℕ) (literals : List ℤ) (first count : ℕ) (ts : List Term) : Type 0 where
  pub coefficients : map (λ t. t.coef) ts ≡ map (coefficient_at words (length literals)) (range_with_len 0 count)
  pub literals_are : map (λ t. literal_number t.lit) ts ≡ take count literals
  pub from : All (λ t. 1 ≤ t.lit.var) ts
  pub below : All (λ t. t.lit.var < first) ts

-- what a statement has beside its terms
abbrev pub head_with : PbcnfSum → Relation → Head
head_with m r = record { terms = m.terms; relation = r; right = wide m.right_low m.right_high }

abbrev pub head_of : PbcnfSum → Option Head
head_of m = option_map (head_with m) (relation_of m.relation)

-- ---- columns

-- the words of the coefficients, the numbers of the literals, what stands beside each sum, and the first fresh variable
pub record Columns : Type 0 where
  pub words : List ℕ
  pub literals : List ℤ
  pub sums : List PbcnfSum
  pub first : ℕ

abbrev pub columns_at : List ℕ → List ℤ → List PbcnfSum → ℕ → Columns
columns_at words literals sums first = record { words = words; literals = literals; sums = sums; first = first }

abbrev pub terms_asked : List PbcnfSum → ℕ
terms_asked sums = sum_by (λ m. m.terms) sums

abbrev pub conditions_in : List PbcnfSum → List ℤ
conditions_in sums = map (λ m. m.condition) sums

-- 0, or the number of a literal of a variable below the first fresh one
abbrev pub IsCondition : ℕ → ℤ → Type 0
IsCondition first z = (z ≡ pos 0) ⊎ IsBelow first z

-- the first fresh variable is in its range, and there are a coefficient and a literal for each term of the sums
pub record AreFit (c : Columns) : Type 0 where
  pub first_from : 1 ≤ c.first
  pub first_to : c.first ≤ 2 ^ 31
  pub words_are : HasWords c.words (length c.literals)
  pub counted : terms_asked c.sums ≡ length c.literals

-- the statements that the columns give: each sum has so many of the next terms, its relation and its right side
pub record AreStatementsOf (c : Columns) (ss : List Raw) : Type 0 where
  pub heads : List Head
  pub terms : List Term
  pub fit : AreFit c
  pub heads_are : map Some heads ≡ map head_of c.sums
  pub terms_are : AreTermsOf c.words c.literals c.first (length c.literals) terms
  pub statements_are : ss ≡ statements_in heads terms

-- the statements that are encoded: those that the columns give, each under the condition of its sum
pub record ArePosedOf (c : Columns) (ps : List Raw) : Type 0 where
  pub asked : List Raw
  pub given : AreStatementsOf c asked
  pub conditions : All (λ m. IsCondition c.first m.condition) c.sums
  pub posed_are : ps ≡ posed (conditions_in c.sums) asked

-- the problem of statements, over the variables below the first fresh one
abbrev pub problem_of : ℕ → List Raw → Problem
problem_of first ss = record { vars = first - 1; numbered = first - 1; names = []; products = []; objective = None; statements = ss }

-- ---- why there are none

-- an item of a list, and its place, from 1
pub record StandsAt {X : Type 0} (xs : List X) (at : ℕ) (x : X) : Type 0 where
  pub before : List X
  pub behind : List X
  pub cut : xs ≡ before ++ x ∷ behind
  pub counted : at ≡ length before + 1

-- the sum that has the term at a place, from 0
pub record IsPlaceOf (sums : List PbcnfSum) (place at : ℕ) : Type 0 where
  pub sum : PbcnfSum
  pub stands : StandsAt sums at sum
  pub from : terms_asked stands.before ≤ place
  pub to : place < terms_asked stands.before + sum.terms

-- its numbers are out of their ranges, or it has too many terms; or memory was wanting
pub data StopsSum (m : PbcnfSum) (at : ℕ) : ColumnFault → Type 0 where
  unknown : head_of m ≡ None → StopsSum m at (fault.Unfit at)
  long : most_terms m.condition < m.terms → StopsSum m at (fault.Limit limit.Terms at)
  no_memory : StopsSum m at fault.NoMemory

-- one of the sums stops
pub record StopsHeads (sums : List PbcnfSum) (f : ColumnFault) : Type 0 where
  pub at : ℕ
  pub sum : PbcnfSum
  pub stands : StandsAt sums at sum
  pub stops : StopsSum sum at f

-- In this order, with the place of the sum to blame: the columns do not fit; there are too many sums; one of them is out of its ranges or too long; a condition, or else a literal, is of no variable below the first fresh one; the numbers of a statement are too great; there are too many statements. Or memory was wanting.
pub data StopsColumns (c : Columns) : ColumnFault → Type 0 where
  unfit : (AreFit c → ⊥) → StopsColumns c (fault.Unfit 0)
  many : 2 ^ 24 < length c.sums → StopsColumns c (fault.Limit limit.Statements 0)
  sum : (f : ColumnFault) → StopsHeads c.sums f → StopsColumns c f
  stray : (m : PbcnfSum) (at : ℕ) → StandsAt c.sums at m → (IsCondition c.first m.condition → ⊥) → StopsColumns c (fault.Unfit at)
  outside : (place at : ℕ) → place < length c.literals → (IsBelow c.first (slice_index_or c.literals place (pos 0)) → ⊥) → IsPlaceOf c.sums place at → StopsColumns c (fault.Unfit at)
  heavy : (ss : List Raw) (m : PbcnfSum) (s : Raw) (at : ℕ) → AreStatementsOf c ss → StandsAt c.sums at m → StandsAt ss at s → (StaysBelow (weight_limit m.condition) s → ⊥) → StopsColumns c (fault.Limit limit.Weight at)
  over : (ps : List Raw) → ArePosedOf c ps → 2 ^ 24 < length ps → StopsColumns c (fault.Limit limit.Statements 0)
  no_memory : StopsColumns c fault.NoMemory

-- ---- parts

-- so many terms as a sum may have
abbrev pub IsShort : PbcnfSum → Type 0
IsShort m = m.terms ≤ most_terms m.condition

-- the head of a sum behind the others
pub record HasMoreHead (m : PbcnfSum) (old new : List Head) : Type 0 where
  pub head : Head
  pub head_is : head_of m ≡ Some head
  pub short : IsShort m
  pub pushed : new ≡ old ++ head ∷ []

-- the numbers of a statement are not too great under its condition
abbrev pub IsLight : ℤ → Raw → Type 0
IsLight z s = StaysBelow (weight_limit z) s

-- its sum is over the variables below the first fresh one, and not too long under its condition
pub record IsSumUnder (first : ℕ) (z : ℤ) (s : Raw) : Type 0 where
  pub condition : IsCondition first z
  pub vars_from : All (λ t. 1 ≤ t.lit.var) s.terms
  pub vars_below : All (λ t. t.lit.var < first) s.terms
  pub short : length s.terms ≤ most_terms z

-- the place, from 1, of a statement whose numbers are too great, or none has such
abbrev pub FindsHeavy : List PbcnfSum → List Raw → Option ℕ → Type 0
FindsHeavy sums ss None = AllUnder IsLight (conditions_in sums) ss
FindsHeavy sums ss (Some at) = (m : PbcnfSum) × ((s : Raw) × (StandsAt sums at m × (StandsAt ss at s × (IsLight m.condition s → ⊥))))

-- the place, from 0, of a number of no literal below the first fresh variable, or there is none
abbrev pub FindsOutside : ℕ → List ℤ → Option ℕ → Type 0
FindsOutside first numbers None = All (IsBelow first) numbers
FindsOutside first numbers (Some place) = (place < length numbers) × (IsBelow first (slice_index_or numbers place (pos 0)) → ⊥)

-- the place, from 1, of a sum whose condition is none, or all have one
abbrev pub FindsStray : ℕ → List PbcnfSum → Option ℕ → Type 0
FindsStray first sums None = All (λ m. IsCondition first m.condition) sums
FindsStray first sums (Some at) = (m : PbcnfSum) × StandsAt sums at m × (IsCondition first m.condition → ⊥)

-- the next statement is taken, and stands posed behind the others
pub record HasMorePosed (condition : ℤ) (left rest old new : List Raw) : Type 0 where
  pub taken : Raw
  pub next : left ≡ taken ∷ rest
  pub pushed : new ≡ old ++ posed_under condition taken
