-- A worked example of a grid's derivation, which the check computes.
use Rattle.std.specs.Prelude.{◌≡◌, [], ◌∷◌, map, drop, codes, refl}
use Rattle.std.specs.Fmt.{digits}
use Rattle.pb_steps.specs.StepText.{step_line}
use Rattle.pb_amo.specs.Product.{root_from, rows, columns, line, fresh_within}
use Rattle.pb_amo.specs.ProductSteps.{steps_within, product_steps}

-- x1 to x5 stand in the rows x6 to x8 and the columns x9 and x10: behind five reifications and ten clauses come the sum of the
-- rows and their clauses, the same of the columns, and then the reifications go
pub grid_of_five_ends :
    map step_line (drop 30 (product_steps (line 1 5) 6 1 2))
    ≡ (codes "pol 1 2 + 4 + 6 +"
    ∷ codes "rup +1 ~x6 +1 ~x7 >= 1 ; 22"
    ∷ codes "out 23"
    ∷ codes "rup +1 ~x6 +1 ~x8 >= 1 ; 22"
    ∷ codes "out 24"
    ∷ codes "rup +1 ~x7 +1 ~x8 >= 1 ; 22"
    ∷ codes "out 25"
    ∷ codes "del 22"
    ∷ codes "pol 1 8 + 10 +"
    ∷ codes "rup +1 ~x9 +1 ~x10 >= 1 ; 26"
    ∷ codes "out 27"
    ∷ codes "del 26"
    ∷ codes "del 2 3"
    ∷ codes "del 4 5"
    ∷ codes "del 6 7"
    ∷ codes "del 8 9"
    ∷ codes "del 10 11"
    ∷ [])
unfolding digits root_from rows columns fresh_within steps_within
grid_of_five_ends = refl
