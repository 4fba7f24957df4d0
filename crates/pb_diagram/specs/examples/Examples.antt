-- Worked examples.
use Rattle.std.specs.Prelude.{◌≡◌, ℕ, ◌+◌, List, [], ◌∷◌, map, codes, refl}
use Rattle.std.specs.Fmt.{digits}
use Rattle.pb_base.specs.declared.literal.Lit.{Lit}
use Rattle.pb_base.specs.Literals.{negated}
use Rattle.pb_norm.specs.Constraints.{Weighted}
use Rattle.pb_norm.specs.BoundedSums.{BoundedSum}
use Rattle.pb_steps.specs.StepText.{step_line}
use Rattle.pb_family.specs.Fresh.{positive_of}
use Rattle.pb_diagram.specs.Sums.{sums}
use Rattle.pb_diagram.specs.Levels.{interval_from, levels_of}
use Rattle.pb_diagram.specs.Clauses.{diagram_clauses, diagram_fresh, diagram_size}
use Rattle.pb_diagram.specs.DiagramSteps.{diagram_steps}

-- the literal x of a number, and its negation
abbrev x : ℕ → Lit
x n = positive_of n

abbrev not_x : ℕ → Lit
not_x n = negated (positive_of n)

-- coefficients for the variables from a number on
abbrev weighing : ℕ → List ℕ → List Weighted
weighing v [] = []
weighing v (a ∷ coefs) = record { coef = a; lit = positive_of v } ∷ weighing (v + 1) coefs

abbrev at_most : ℕ → List ℕ → BoundedSum
at_most bound coefs = record { terms = weighing 1 coefs; bound = bound }

pub sums_of_three : sums (4 ∷ 3 ∷ 2 ∷ []) ≡ 0 ∷ 2 ∷ 3 ∷ 4 ∷ 5 ∷ 6 ∷ 7 ∷ 9 ∷ []
sums_of_three = refl

-- 4x1 + 3x2 + 2x3 <= 5
pub three_terms_levels : levels_of (at_most 5 (4 ∷ 3 ∷ 2 ∷ []))
    ≡ ((interval_from 5 6 ∷ []) ∷ (interval_from 0 2 ∷ []) ∷ (interval_from 0 2 ∷ []) ∷ [])
three_terms_levels = refl

pub three_terms : diagram_clauses (at_most 5 (4 ∷ 3 ∷ 2 ∷ [])) 4
    ≡ ((not_x 4 ∷ not_x 1 ∷ x 5 ∷ [])
    ∷ (not_x 5 ∷ x 6 ∷ [])
    ∷ (not_x 5 ∷ not_x 2 ∷ [])
    ∷ (not_x 6 ∷ not_x 3 ∷ [])
    ∷ (x 4 ∷ [])
    ∷ [])
three_terms = refl

pub three_terms_fresh : diagram_fresh (at_most 5 (4 ∷ 3 ∷ 2 ∷ [])) ≡ 3
three_terms_fresh = refl

pub three_terms_size : diagram_size (at_most 5 (4 ∷ 3 ∷ 2 ∷ [])) ≡ 5
three_terms_size = refl

-- its derivation, where the sum's constraint has the id 1 and the next id is 2
pub three_terms_lines : map step_line (diagram_steps (at_most 5 (4 ∷ 3 ∷ 2 ∷ [])) 4 1 2)
    ≡ (codes "red +4 ~x4 +4 ~x1 +3 ~x2 +2 ~x3 >= 4 ; x4 -> 0"
    ∷ codes "red +6 x4 +4 x1 +3 x2 +2 x3 >= 6 ; x4 -> 1"
    ∷ codes "red +4 ~x5 +3 ~x2 +2 ~x3 >= 4 ; x5 -> 0"
    ∷ codes "red +2 x5 +3 x2 +2 x3 >= 2 ; x5 -> 1"
    ∷ codes "red +1 ~x6 +2 ~x3 >= 1 ; x6 -> 0"
    ∷ codes "red +2 x6 +2 x3 >= 2 ; x6 -> 1"
    ∷ codes "pol 2 5 + 85070591730234615865843651857942052863 d"
    ∷ codes "out 8"
    ∷ codes "pol 4 7 + x2 w 85070591730234615865843651857942052863 d"
    ∷ codes "out 9"
    ∷ codes "pol 4 x3 w 85070591730234615865843651857942052863 d"
    ∷ codes "out 10"
    ∷ codes "pol 6 85070591730234615865843651857942052863 d"
    ∷ codes "out 11"
    ∷ codes "pol 3 1 + 85070591730234615865843651857942052863 d"
    ∷ codes "out 12"
    ∷ codes "del 2 3"
    ∷ codes "del 4 5"
    ∷ codes "del 6 7"
    ∷ [])
unfolding digits
three_terms_lines = refl

-- 5x1 + 4x2 + 3x3 + 3x4 <= 8: where the first or the second is true, the residues 3 and 4 meet in the interval from 3 to 5
pub residues_meet : diagram_clauses (at_most 8 (5 ∷ 4 ∷ 3 ∷ 3 ∷ [])) 5
    ≡ ((not_x 5 ∷ x 7 ∷ [])
    ∷ (not_x 5 ∷ not_x 1 ∷ x 6 ∷ [])
    ∷ (not_x 6 ∷ x 8 ∷ [])
    ∷ (not_x 6 ∷ not_x 2 ∷ [])
    ∷ (not_x 7 ∷ not_x 2 ∷ x 8 ∷ [])
    ∷ (not_x 8 ∷ not_x 3 ∷ x 9 ∷ [])
    ∷ (not_x 9 ∷ not_x 4 ∷ [])
    ∷ (x 5 ∷ [])
    ∷ [])
residues_meet = refl

pub residues_meet_levels : levels_of (at_most 8 (5 ∷ 4 ∷ 3 ∷ 3 ∷ []))
    ≡ ((interval_from 8 9 ∷ []) ∷ (interval_from 3 4 ∷ interval_from 7 10 ∷ []) ∷ (interval_from 3 6 ∷ []) ∷ (interval_from 0 3 ∷ []) ∷ [])
residues_meet_levels = refl

pub residues_meet_fresh : diagram_fresh (at_most 8 (5 ∷ 4 ∷ 3 ∷ 3 ∷ [])) ≡ 5
residues_meet_fresh = refl

pub residues_meet_size : diagram_size (at_most 8 (5 ∷ 4 ∷ 3 ∷ 3 ∷ [])) ≡ 8
residues_meet_size = refl

-- 3x1 + 3x2 + 2x3 + 1x4 <= 4: nothing is left to decide at the last term
pub last_term_is_free : diagram_clauses (at_most 4 (3 ∷ 3 ∷ 2 ∷ 1 ∷ [])) 5
    ≡ ((not_x 5 ∷ x 7 ∷ [])
    ∷ (not_x 5 ∷ not_x 1 ∷ x 6 ∷ [])
    ∷ (not_x 6 ∷ x 8 ∷ [])
    ∷ (not_x 6 ∷ not_x 2 ∷ [])
    ∷ (not_x 7 ∷ not_x 2 ∷ x 8 ∷ [])
    ∷ (not_x 8 ∷ not_x 3 ∷ [])
    ∷ (x 5 ∷ [])
    ∷ [])
last_term_is_free = refl

-- 5x1 + 3x2 + 2x3 + 2x4 <= 7
pub four_terms_fresh : diagram_fresh (at_most 7 (5 ∷ 3 ∷ 2 ∷ 2 ∷ [])) ≡ 4
four_terms_fresh = refl

pub four_terms_size : diagram_size (at_most 7 (5 ∷ 3 ∷ 2 ∷ 2 ∷ [])) ≡ 6
four_terms_size = refl

-- 7x1 + 5x2 + 3x3 + 2x4 + 2x5 + 1x6 <= 10
pub six_terms_fresh : diagram_fresh (at_most 10 (7 ∷ 5 ∷ 3 ∷ 2 ∷ 2 ∷ 1 ∷ [])) ≡ 12
six_terms_fresh = refl

pub six_terms_size : diagram_size (at_most 10 (7 ∷ 5 ∷ 3 ∷ 2 ∷ 2 ∷ 1 ∷ [])) ≡ 19
six_terms_size = refl
