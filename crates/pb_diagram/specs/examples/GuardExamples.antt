-- Worked examples.
use Rattle.std.specs.Prelude.{◌≡◌, ℕ, ◌+◌, Bool, List, [], ◌∷◌, map, codes, refl}
use Rattle.std.specs.Fmt.{digits}
use Rattle.pb_norm.specs.Constraints.{Weighted}
use Rattle.pb_norm.specs.BoundedSums.{BoundedSum}
use Rattle.pb_steps.specs.StepText.{step_line}
use Rattle.pb_family.specs.Fresh.{positive_of}
use Rattle.pb_diagram.specs.GuardedSteps.{guarded_steps, is_guarded}

abbrev weighing_from : ℕ → List ℕ → List Weighted
weighing_from v [] = []
weighing_from v (a ∷ coefs) = record { coef = a; lit = positive_of v } ∷ weighing_from (v + 1) coefs

abbrev at_most : ℕ → List ℕ → BoundedSum
at_most bound coefs = record { terms = weighing_from 1 coefs; bound = bound }

-- 4x1 + 3x2 + 2x3 <= 5: the sum's constraint has the id 1, and the next id is 2
pub three_terms_lines : map step_line (guarded_steps (at_most 5 (4 ∷ 3 ∷ 2 ∷ [])) 4 1 2)
    ≡ (codes "red +1 ~x6 +1 ~x3 >= 1 ; x6 -> 0"
    ∷ codes "red +1 x6 +1 x3 >= 1 ; x6 -> 1"
    ∷ codes "red +3 ~x5 +2 x6 +1 ~x2 >= 3 ; x5 -> 0"
    ∷ codes "red +1 x5 +2 ~x6 +1 x2 >= 1 ; x5 -> 1"
    ∷ codes "pol x4 x4 w"
    ∷ codes "red +2 ~x4 +2 x3 +2 x6 >= 2 ; x4 -> 0"
    ∷ codes "red +3 x4 +2 ~x3 +2 ~x6 >= 3 ; x4 -> 1"
    ∷ codes "pol 8 3 3 d 2 * + x3 + 5 d 8 x6 2 * + 5 d + 2 d"
    ∷ codes "pol 7 9 2 * + 6 +"
    ∷ codes "del 6 7 8 9"
    ∷ codes "red +2 ~x4 +2 x2 +2 ~x6 +2 x5 >= 2 ; x4 -> 0"
    ∷ codes "red +5 x4 +2 ~x2 +2 x6 +2 ~x5 >= 5 ; x4 -> 1"
    ∷ codes "pol 12 5 3 d 2 * + x2 + 7 d 12 x5 2 * + ~x6 2 * + 7 d + 2 d"
    ∷ codes "pol 11 13 2 * + x2 + 10 +"
    ∷ codes "del 10 11 12 13"
    ∷ codes "red +1 ~x4 +1 ~x1 +1 x5 >= 1 ; x4 -> 0"
    ∷ codes "red +2 x4 +1 x1 +1 ~x5 >= 2 ; x4 -> 1"
    ∷ codes "pol 15 3 d"
    ∷ codes "out 17"
    ∷ codes "pol 4 x2 w 3 d"
    ∷ codes "out 18"
    ∷ codes "pol 4 x6 w 3 d"
    ∷ codes "out 19"
    ∷ codes "pol 2 3 d"
    ∷ codes "out 20"
    ∷ codes "pol 1 14 + 16 x5 + 3 d 6 * + ~x5 2 * + x1 + 13 d 1 14 + x4 4 * + 16 ~x1 + 3 d 2 * + 13 d + 2 d"
    ∷ codes "out 21"
    ∷ codes "del 14 15 16"
    ∷ codes "del 2 3"
    ∷ codes "del 4 5"
    ∷ [])
unfolding digits
three_terms_lines = refl

-- 5x1 + 4x2 + 3x3 + 3x4 <= 8, with a level of two nodes
pub residues_meet_lines : map step_line (guarded_steps (at_most 8 (5 ∷ 4 ∷ 3 ∷ 3 ∷ [])) 5 1 2)
    ≡ (codes "red +1 ~x9 +1 ~x4 >= 1 ; x9 -> 0"
    ∷ codes "red +1 x9 +1 x4 >= 1 ; x9 -> 1"
    ∷ codes "red +1 ~x8 +1 ~x3 +1 x9 >= 1 ; x8 -> 0"
    ∷ codes "red +2 x8 +1 x3 +1 ~x9 >= 2 ; x8 -> 1"
    ∷ codes "red +3 ~x6 +2 x8 +1 ~x2 >= 3 ; x6 -> 0"
    ∷ codes "red +1 x6 +2 ~x8 +1 x2 >= 1 ; x6 -> 1"
    ∷ codes "red +1 ~x7 +1 ~x2 +1 x8 >= 1 ; x7 -> 0"
    ∷ codes "red +2 x7 +1 x2 +1 ~x8 >= 2 ; x7 -> 1"
    ∷ codes "pol 6 9 + ~x8 2 * + x8 + 3 d"
    ∷ codes "pol x5 x5 w"
    ∷ codes "red +3 ~x5 +3 x4 +3 x9 >= 3 ; x5 -> 0"
    ∷ codes "red +4 x5 +3 ~x4 +3 ~x9 >= 4 ; x5 -> 1"
    ∷ codes "pol 13 3 3 d 3 * + x4 + 7 d 13 x9 3 * + 7 d + 2 d"
    ∷ codes "pol 12 14 3 * + 11 +"
    ∷ codes "del 11 12 13 14"
    ∷ codes "red +6 ~x5 +3 x3 +3 ~x9 +6 x8 >= 6 ; x5 -> 0"
    ∷ codes "red +7 x5 +3 ~x3 +3 x9 +6 ~x8 >= 7 ; x5 -> 1"
    ∷ codes "pol 17 5 x9 + 3 d 6 * + ~x9 3 * + x3 + 13 d 17 x8 3 * + 5 ~x3 + 3 d 3 * + 13 d + 2 d"
    ∷ codes "pol 16 18 6 * + 15 +"
    ∷ codes "del 15 16 17 18"
    ∷ codes "red +10 ~x5 +4 x2 +6 ~x8 +4 x6 +6 x7 >= 10 ; x5 -> 0"
    ∷ codes "red +11 x5 +4 ~x2 +6 x8 +4 ~x6 +6 ~x7 >= 11 ; x5 -> 1"
    ∷ codes "pol 21 7 3 d 4 * + 9 x8 + 3 d 6 * + ~x8 2 * + x2 + 21 d 21 x6 4 * + 9 ~x2 + 3 d 6 * + 21 d + 2 d"
    ∷ codes "pol 20 22 10 * + 19 +"
    ∷ codes "del 19 20 21 22"
    ∷ codes "red +3 ~x5 +2 x7 +1 ~x1 +1 x6 >= 3 ; x5 -> 0"
    ∷ codes "red +2 x5 +2 ~x7 +1 x1 +1 ~x6 >= 2 ; x5 -> 1"
    ∷ codes "pol 24 x1 w x6 w 3 d"
    ∷ codes "out 26"
    ∷ codes "pol 24 x7 w 3 d"
    ∷ codes "out 27"
    ∷ codes "pol 6 x2 w 3 d"
    ∷ codes "out 28"
    ∷ codes "pol 6 x8 w 3 d"
    ∷ codes "out 29"
    ∷ codes "pol 8 3 d"
    ∷ codes "out 30"
    ∷ codes "pol 4 3 d"
    ∷ codes "out 31"
    ∷ codes "pol 2 3 d"
    ∷ codes "out 32"
    ∷ codes "pol 1 23 + 25 x6 + 3 d 9 * + 10 4 * + ~x7 + x1 + 25 d 1 23 + x5 5 * + 25 10 2 * + ~x1 + 3 d 4 * + ~x7 6 * + 25 d + 2 d"
    ∷ codes "out 33"
    ∷ codes "del 23 24 25"
    ∷ codes "del 10"
    ∷ codes "del 2 3"
    ∷ codes "del 4 5"
    ∷ codes "del 6 7"
    ∷ codes "del 8 9"
    ∷ [])
unfolding digits
residues_meet_lines = refl

-- 5x1 + 2x2 <= 3: the root is the only node
pub one_node_lines : map step_line (guarded_steps (at_most 3 (5 ∷ 2 ∷ [])) 3 1 2)
    ≡ (codes "pol x3 x3 w x2 2 * +"
    ∷ codes "red +1 ~x3 +1 ~x1 >= 1 ; x3 -> 0"
    ∷ codes "red +1 x3 +1 x1 >= 1 ; x3 -> 1"
    ∷ codes "pol 3 3 d"
    ∷ codes "out 5"
    ∷ codes "pol 1 2 + 4 3 d 5 * + x1 + 11 d 1 2 + x3 5 * + 11 d + 2 d"
    ∷ codes "out 6"
    ∷ codes "del 2 3 4"
    ∷ [])
unfolding digits
one_node_lines = refl

-- at most 17 of 19
pub few_terms_have_no_guards : is_guarded (at_most 17 (1 ∷ 1 ∷ 1 ∷ 1 ∷ 1 ∷ 1 ∷ 1 ∷ 1 ∷ 1 ∷ 1 ∷ 1 ∷ 1 ∷ 1 ∷ 1 ∷ 1 ∷ 1 ∷ 1 ∷ 1 ∷ 1 ∷ [])) ≡ Bool.false
few_terms_have_no_guards = refl

-- at most 18 of 20
pub twenty_terms_have_guards : is_guarded (at_most 18 (1 ∷ 1 ∷ 1 ∷ 1 ∷ 1 ∷ 1 ∷ 1 ∷ 1 ∷ 1 ∷ 1 ∷ 1 ∷ 1 ∷ 1 ∷ 1 ∷ 1 ∷ 1 ∷ 1 ∷ 1 ∷ 1 ∷ 1 ∷ [])) ≡ Bool.true
twenty_terms_have_guards = refl
