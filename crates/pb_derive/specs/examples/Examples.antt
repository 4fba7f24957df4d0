-- Worked examples of derivations by their lines, which the check computes.
use Rattle.std.specs.Prelude.{◌≡◌, ℕ, List, [], ◌∷◌, map, true, false, codes, refl}
use Rattle.std.specs.Fmt.{digits}
use Rattle.pb_base.specs.declared.literal.Lit.{Lit}
use Rattle.pb_steps.specs.declared.step.Step.{Step}
use Rattle.pb_steps.specs.StepText.{step_line}
use Rattle.pb_derive.specs.Ones.{ones}
use Rattle.pb_derive.specs.Reifications.{Reification, reification_steps}
use Rattle.pb_derive.specs.Claims.{claim_steps}
use Rattle.pb_derive.specs.Justifications.{by_justification}
use Rattle.pb_derive.specs.Rups.{by_rup}
use Rattle.pb_derive.specs.Phases.{phases}

abbrev plus : ℕ → Lit
plus v = record { var = v; positive = true }

abbrev minus : ℕ → Lit
minus v = record { var = v; positive = false }

abbrev lines : List Step → List (List ℕ)
lines steps = map step_line steps

-- x3 means that so many of x1 and x2 are true
abbrev some_of_two : ℕ → Reification
some_of_two least = record { var = 3; sum = ones (plus 1 ∷ plus 2 ∷ []); least = least }

pub one_of_two :
    lines (reification_steps 4 (some_of_two 1 ∷ []))
    ≡ (codes "red +1 ~x3 +1 x1 +1 x2 >= 1 ; x3 -> 0"
    ∷ codes "red +2 x3 +1 ~x1 +1 ~x2 >= 2 ; x3 -> 1"
    ∷ [])
unfolding digits
one_of_two = refl

pub three_of_two :
    lines (reification_steps 4 (some_of_two 3 ∷ []))
    ≡ (codes "red +3 ~x3 +1 x1 +1 x2 >= 3 ; x3 -> 0"
    ∷ codes "rup >= 0 ; 4"
    ∷ [])
unfolding digits
three_of_two = refl

-- where x1 is true, so is x3
pub a_clause_by_a_reification :
    lines (phases 4 (some_of_two 1 ∷ []) (by_justification (record { clause = minus 1 ∷ plus 3 ∷ []; ids = 5 ∷ []; weakened = 2 ∷ [] }) ∷ []))
    ≡ (codes "red +1 ~x3 +1 x1 +1 x2 >= 1 ; x3 -> 0"
    ∷ codes "red +2 x3 +1 ~x1 +1 ~x2 >= 2 ; x3 -> 1"
    ∷ codes "pol 5 x2 w 85070591730234615865843651857942052863 d"
    ∷ codes "out 6"
    ∷ codes "del 4 5"
    ∷ [])
unfolding digits
a_clause_by_a_reification = refl

pub a_clause_by_propagation :
    lines (claim_steps 9 (by_rup (2 ∷ []) (minus 1 ∷ minus 2 ∷ minus 1 ∷ []) ∷ []))
    ≡ (codes "rup +1 ~x2 +1 ~x1 >= 1 ; 2"
    ∷ codes "out 9"
    ∷ [])
unfolding digits
a_clause_by_propagation = refl
