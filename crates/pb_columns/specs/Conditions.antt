-- Statements that are asked where a literal is true, as statements with one more term. Our own.
use Rattle.std.specs.Prelude.{◌≡◌, ◌⊎◌, ◌-◌, ◌^◌, ℕ, zero, ℤ, Bool, true, false, pos, negsuc, ◌-ℤ◌, List, [], ◌∷◌, ◌++◌}
use Rattle.std.specs.Int.RustNames.{unsigned_abs}
use Rattle.pb_base.specs.declared.literal.Lit.{Lit}
use Rattle.pb_base.specs.declared.literal.Term.{Term}
use Rattle.pb_base.specs.declared.problem.Raw.{Raw}
use Rattle.pb_base.specs.declared.problem.Relation.{Relation}
use Rattle.pb_base.specs.declared.problem.Relation.TheVariants.{AtLeast, AtMost, Equal}
use Rattle.pb_base.specs.Literals.{Assignment, lit_value, negated}
use Rattle.pb_base.specs.Problems.{Satisfies}
use Rattle.pb_base.specs.Sums.{int_sum_by}

-- ---- sums

abbrev pub negative_part : ℤ → ℤ
negative_part (pos n) = pos 0
negative_part (negsuc n) = negsuc n

abbrev pub positive_part : ℤ → ℤ
positive_part (pos n) = pos n
positive_part (negsuc n) = pos 0

-- no value of the sum is below it
abbrev pub least : List Term → ℤ
least ts = int_sum_by (λ t. negative_part t.coef) ts

-- and none is above this
abbrev pub greatest : List Term → ℤ
greatest ts = int_sum_by (λ t. positive_part t.coef) ts

-- ---- statements under a condition

-- the sum, and where the condition is false so much more
abbrev pub shifted : Lit → ℤ → List Term → List Term
shifted l shift ts = ts ++ record { coef = shift; lit = negated l } ∷ []

-- how far the right side is above every value of the sum, at most; and how far it is below, as a number that is not positive
abbrev pub shift_up : List Term → ℤ → ℤ
shift_up ts right = positive_part (right -ℤ least ts)

abbrev pub shift_down : List Term → ℤ → ℤ
shift_down ts right = negative_part (right -ℤ greatest ts)

abbrev pub least_under : Lit → List Term → ℤ → Raw
least_under l ts right = record { terms = shifted l (shift_up ts right) ts; relation = AtLeast; right = right }

abbrev pub most_under : Lit → List Term → ℤ → Raw
most_under l ts right = record { terms = shifted l (shift_down ts right) ts; relation = AtMost; right = right }

-- where the condition is false the right side is reached by every sum; an equality is asked as its two halves
abbrev pub halves_under : Relation → Lit → List Term → ℤ → List Raw
halves_under AtLeast l ts right = least_under l ts right ∷ []
halves_under AtMost l ts right = most_under l ts right ∷ []
halves_under Equal l ts right = least_under l ts right ∷ most_under l ts right ∷ []

abbrev pub under : Lit → Raw → List Raw
under l s = halves_under s.relation l s.terms s.right

-- ---- conditions by their numbers

abbrev pub is_above : ℤ → Bool
is_above (pos n) = true
is_above (negsuc n) = false

-- the literal of a number
abbrev pub literal_at : ℤ → Lit
literal_at z = record { var = unsigned_abs z; positive = is_above z }

-- a condition of 0 is none
abbrev pub posed_under : ℤ → Raw → List Raw
posed_under (pos zero) s = s ∷ []
posed_under z s = under (literal_at z) s

-- the statements that are made of these, one condition for each
abbrev pub posed : List ℤ → List Raw → List Raw
posed (z ∷ zs) (s ∷ ss) = posed_under z s ++ posed zs ss
posed zs ss = ss

-- there is none, or it is true
abbrev pub IsOn : Assignment → ℤ → Type 0
IsOn a z = (z ≡ pos 0) ⊎ (lit_value a (literal_at z) ≡ true)

-- each statement holds whose condition is true, or that has none
abbrev pub HoldUnder : Assignment → List ℤ → List Raw → Type 0
HoldUnder a (z ∷ zs) (s ∷ ss) = (IsOn a z → Satisfies a s) × HoldUnder a zs ss
HoldUnder a zs [] = Unit {0}
HoldUnder a [] (s ∷ ss) = Satisfies a s × HoldUnder a [] ss

-- ---- limits

-- under a condition a sum has one term less than without
abbrev pub most_terms : ℤ → ℕ
most_terms (pos zero) = 2 ^ 20
most_terms z = 2 ^ 20 - 1

-- and its numbers add up to less than half
abbrev pub weight_limit : ℤ → ℕ
weight_limit (pos zero) = 2 ^ 100
weight_limit z = 2 ^ 99

-- so it is of each statement and the number of its condition
abbrev pub AllUnder : (ℤ → Raw → Type 0) → List ℤ → List Raw → Type 0
AllUnder P (z ∷ zs) (s ∷ ss) = P z s × AllUnder P zs ss
AllUnder P zs ss = Unit {0}
