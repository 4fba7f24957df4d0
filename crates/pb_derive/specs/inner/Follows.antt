-- When a clause follows from constraints that are added. These serve the proofs that derivations run.
use Rattle.std.specs.Prelude.{◌≡◌, ◌≢◌, ◌≤◌, ◌<◌, ◌^◌, ◌⊎◌, ℕ, true, false, List, [], ◌∷◌, sum_by, All, Contains}
use Rattle.pb_base.specs.declared.literal.Lit.{Lit}
use Rattle.pb_base.specs.Literals.{Assignment, negated, lit_value, is_among}
use Rattle.pb_norm.specs.Constraints.{Constraint, weight, value}
use Rattle.pb_norm.specs.Addition.{coef_of}
use Rattle.pb_derive.specs.Justifications.{Justification}

abbrev pub degrees : List Constraint → ℕ
degrees ss = sum_by (λ s. s.degree) ss

abbrev pub weight_in : List Constraint → ℕ
weight_in ss = sum_by (λ s. weight s.terms) ss

abbrev pub value_in : Assignment → List Constraint → ℕ
value_in a ss = sum_by (λ s. value a s.terms) ss

abbrev pub coef_in : List Constraint → Lit → ℕ
coef_in ss l = sum_by (λ s. coef_of s.terms l) ss

abbrev pub AllFalse : Assignment → List Lit → Type 0
AllFalse a ls = All (λ l. lit_value a l ≡ false) ls

-- each literal that is left of the sum is one of the clause, or goes with its variable; and where the clause is false, the sum is too small
pub record FollowsFrom (ss : List Constraint) (r : Justification) : Type 0 where
  pub within : (l : Lit) → (is_among r.clause l ≡ true) ⊎ Contains r.weakened l.var ⊎ (coef_in ss l ≤ coef_in ss (negated l))
  pub apart : (l : Lit) → Contains r.clause l → ¬ Contains r.weakened l.var
  pub short : (a : Assignment) → AllFalse a r.clause → value_in a ss < degrees ss
  pub weight_fits : weight_in ss < 2 ^ 126
  pub degree_fits : degrees ss < 2 ^ 126

-- the ids are of these constraints, by what is known
abbrev pub AllKnown : (ℕ → Constraint → Type 0) → List ℕ → List Constraint → Type 0
AllKnown Known [] [] = Unit {0}
AllKnown Known (id ∷ ids) (s ∷ ss) = Known id s × AllKnown Known ids ss
AllKnown Known _ _ = ⊥

-- the clause follows from constraints that are known, from one at least; no variable is above a number
pub record IsJustification (Known : ℕ → Constraint → Type 0) (vars : ℕ) (r : Justification) : Type 0 where
  pub some : r.ids ≢ []
  pub sources : List Constraint
  pub found : AllKnown Known r.ids sources
  pub follows : FollowsFrom sources r
  pub vars_known : All (λ v. v ≤ vars) r.weakened
