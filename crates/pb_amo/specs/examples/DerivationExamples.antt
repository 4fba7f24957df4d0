-- Worked examples of derivations, which the check computes.
use Rattle.std.specs.Prelude.{◌≡◌, ℕ, List, [], ◌∷◌, map, true, codes, refl}
use Rattle.std.specs.Fmt.{digits}
use Rattle.pb_base.specs.declared.literal.Lit.{Lit}
use Rattle.pb_steps.specs.declared.step.Step.{Step}
use Rattle.pb_steps.specs.StepText.{step_line}
use Rattle.pb_derive.specs.Ones.{ones}
use Rattle.pb_amo.specs.PairwiseSteps.{pairwise_steps}
use Rattle.pb_amo.specs.LadderSteps.{ladder_steps}

abbrev plus : ℕ → Lit
plus v = record { var = v; positive = true }

abbrev three : List Lit
three = plus 1 ∷ plus 2 ∷ plus 3 ∷ []

abbrev lines : List Step → List (List ℕ)
lines steps = map step_line steps

-- the constraint has the id 1, and 2 is the next
pub pairs_of_three :
    lines (pairwise_steps three 1 2)
    ≡ (codes "rup +1 ~x1 +1 ~x2 >= 1 ; 1"
    ∷ codes "out 2"
    ∷ codes "rup +1 ~x1 +1 ~x3 >= 1 ; 1"
    ∷ codes "out 3"
    ∷ codes "rup +1 ~x2 +1 ~x3 >= 1 ; 1"
    ∷ codes "out 4"
    ∷ [])
unfolding digits
pairs_of_three = refl

pub ladder_of_three :
    lines (ladder_steps (ones three) 4 1 2)
    ≡ (codes "red +1 ~x5 +1 x3 >= 1 ; x5 -> 0"
    ∷ codes "red +1 x5 +1 ~x3 >= 1 ; x5 -> 1"
    ∷ codes "red +1 ~x4 +1 x2 +1 x5 >= 1 ; x4 -> 0"
    ∷ codes "red +2 x4 +1 ~x2 +1 ~x5 >= 2 ; x4 -> 1"
    ∷ codes "pol 1 2 +"
    ∷ codes "pol 6 4 +"
    ∷ codes "rup +1 ~x5 +1 x4 >= 1 ; 5"
    ∷ codes "out 8"
    ∷ codes "rup +1 ~x1 +1 ~x4 >= 1 ; 7"
    ∷ codes "out 9"
    ∷ codes "rup +1 ~x2 +1 ~x5 >= 1 ; 6"
    ∷ codes "out 10"
    ∷ codes "rup +1 ~x2 +1 x4 >= 1 ; 5"
    ∷ codes "out 11"
    ∷ codes "rup +1 ~x3 +1 x5 >= 1 ; 3"
    ∷ codes "out 12"
    ∷ codes "del 2 3 4"
    ∷ codes "del 5 6 7"
    ∷ [])
unfolding digits
ladder_of_three = refl
