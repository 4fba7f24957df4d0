-- Worked examples.
use Rattle.std.specs.Prelude.{◌≡◌, ℕ, ◌+◌, List, [], ◌∷◌, refl}
use Rattle.pb_base.specs.declared.literal.Lit.{Lit}
use Rattle.pb_base.specs.Literals.{negated}
use Rattle.pb_norm.specs.Constraints.{Weighted}
use Rattle.pb_norm.specs.BoundedSums.{BoundedSum}
use Rattle.pb_family.specs.Fresh.{positive_of}
use Rattle.pb_tree.specs.Tree.{split_within}
use Rattle.pb_gentot.specs.Generalized.{generalized_clauses, generalized_fresh, generalized_size}

-- the literal x of a number, and its negation
abbrev pub x : ℕ → Lit
x n = positive_of n

abbrev pub not_x : ℕ → Lit
not_x n = negated (positive_of n)

-- coefficients for the variables from a number on
abbrev pub weighing : ℕ → List ℕ → List Weighted
weighing v [] = []
weighing v (a ∷ coefs) = record { coef = a; lit = positive_of v } ∷ weighing (v + 1) coefs

abbrev at_most : ℕ → List ℕ → BoundedSum
at_most bound coefs = record { terms = weighing 1 coefs; bound = bound }

-- 4x1 + 3x2 + 2x3 <= 5
pub three_terms : generalized_clauses (at_most 5 (4 ∷ 3 ∷ 2 ∷ [])) 4
    ≡ ((not_x 2 ∷ x 5 ∷ [])
    ∷ (not_x 3 ∷ x 4 ∷ [])
    ∷ (not_x 2 ∷ not_x 3 ∷ x 6 ∷ [])
    ∷ (not_x 1 ∷ x 9 ∷ [])
    ∷ (not_x 4 ∷ x 7 ∷ [])
    ∷ (not_x 5 ∷ x 8 ∷ [])
    ∷ (not_x 6 ∷ x 10 ∷ [])
    ∷ (not_x 1 ∷ not_x 4 ∷ x 11 ∷ [])
    ∷ (not_x 1 ∷ not_x 5 ∷ x 11 ∷ [])
    ∷ (not_x 1 ∷ not_x 6 ∷ x 11 ∷ [])
    ∷ (not_x 11 ∷ [])
    ∷ [])
unfolding split_within
three_terms = refl

-- 3x1 + 2x2 <= 3
pub two_terms : generalized_clauses (at_most 3 (3 ∷ 2 ∷ [])) 3
    ≡ ((not_x 1 ∷ x 4 ∷ [])
    ∷ (not_x 2 ∷ x 3 ∷ [])
    ∷ (not_x 1 ∷ not_x 2 ∷ x 5 ∷ [])
    ∷ (not_x 5 ∷ [])
    ∷ [])
unfolding split_within
two_terms = refl

-- 2x1 + 1x2 + 1x3 <= 2
pub sums_coincide : generalized_clauses (at_most 2 (2 ∷ 1 ∷ 1 ∷ [])) 4
    ≡ ((not_x 2 ∷ x 4 ∷ [])
    ∷ (not_x 3 ∷ x 4 ∷ [])
    ∷ (not_x 2 ∷ not_x 3 ∷ x 5 ∷ [])
    ∷ (not_x 1 ∷ x 7 ∷ [])
    ∷ (not_x 4 ∷ x 6 ∷ [])
    ∷ (not_x 5 ∷ x 7 ∷ [])
    ∷ (not_x 1 ∷ not_x 4 ∷ x 8 ∷ [])
    ∷ (not_x 1 ∷ not_x 5 ∷ x 8 ∷ [])
    ∷ (not_x 8 ∷ [])
    ∷ [])
unfolding split_within
sums_coincide = refl

-- how many fresh variables and clauses there are with these coefficients
abbrev HasCounts : ℕ → List ℕ → ℕ → ℕ → Type 0
HasCounts bound coefs fresh size = (generalized_fresh (at_most bound coefs) ≡ fresh) × (generalized_size (at_most bound coefs) ≡ size)

pub counts : HasCounts 5 (4 ∷ 3 ∷ 2 ∷ []) 8 11
    × HasCounts 3 (3 ∷ 2 ∷ []) 3 4
    × HasCounts 2 (2 ∷ 1 ∷ 1 ∷ []) 5 9
    × HasCounts 7 (5 ∷ 3 ∷ 2 ∷ 2 ∷ []) 11 18
    × HasCounts 4 (3 ∷ 3 ∷ 2 ∷ 1 ∷ []) 10 18
    × HasCounts 10 (7 ∷ 5 ∷ 3 ∷ 2 ∷ 2 ∷ 1 ∷ []) 28 62
    × HasCounts 6 (4 ∷ 4 ∷ 2 ∷ 2 ∷ 1 ∷ []) 17 31
    × HasCounts 12 (6 ∷ 5 ∷ 4 ∷ 3 ∷ 2 ∷ 1 ∷ []) 32 76
unfolding split_within
counts = ((refl, refl), (refl, refl), (refl, refl), (refl, refl), (refl, refl), (refl, refl), (refl, refl), (refl, refl))
