-- Worked examples: the steps that derive the clauses of a constraint, which has the id 1, from the id 4 on.
use Rattle.std.specs.Prelude.{◌≡◌, ℕ, pos, List, [], ◌∷◌, map, refl}
use Rattle.pb_base.specs.Literals.{negated}
use Rattle.pb_norm.specs.ClauseForm.{one_of}
use Rattle.pb_norm.specs.Constraints.{Weighted, Constraint}
use Rattle.pb_steps.specs.declared.op.PolOp.TheVariants.{Push, Div, Saturate, Weaken}
use Rattle.pb_steps.specs.declared.step.Step.{Step}
use Rattle.pb_steps.specs.declared.step.Step.TheVariants.{Pol, Rup, Del, Out}
use Rattle.pb_family.specs.Fresh.{positive_of}
use Rattle.pb_choice.specs.ConstraintSteps.{constraint_steps}
use Rattle.pb_base.specs.Defaults.{default_options}
use Rattle.pb_choice.specs.Reducing.{core_ops}

abbrev weighing : ℕ → ℕ → Weighted
weighing a v = record { coef = a; lit = negated (positive_of v) }

-- a clause of negated variables follows from the constraint
abbrev follows : List ℕ → Step
follows vs = Rup (map (λ v. one_of (negated (positive_of v))) vs) (pos 1) (1 ∷ [])

abbrev derived : Constraint → List Step
derived c = constraint_steps default_options c 4 1 4

-- ~x1 >= 2
pub out_of_reach : derived (record { terms = weighing 1 1 ∷ []; degree = 2 }) ≡ follows [] ∷ Out 4 ∷ []
out_of_reach = refl

-- 5 ~x1 + 3 ~x2 + 2 ~x3 >= 6: the unit ~x1, and one of the others
pub unit_and_clause : derived (record { terms = weighing 5 1 ∷ weighing 3 2 ∷ weighing 2 3 ∷ []; degree = 6 }) ≡ follows (1 ∷ []) ∷ Out 4 ∷ follows (2 ∷ 3 ∷ []) ∷ Out 5 ∷ []
unit_and_clause = refl

-- 2 ~x1 + 2 ~x2 + 2 ~x3 >= 3: two of three, whose clauses follow from the constraint divided by 2
pub two_of_three : derived (record { terms = weighing 2 1 ∷ weighing 2 2 ∷ weighing 2 3 ∷ []; degree = 3 })
    ≡ Pol (Push 1 ∷ Saturate ∷ Div (pos 2) ∷ [])
    ∷ Rup (one_of (negated (positive_of 1)) ∷ one_of (negated (positive_of 2)) ∷ []) (pos 1) (4 ∷ []) ∷ Out 5
    ∷ Rup (one_of (negated (positive_of 1)) ∷ one_of (negated (positive_of 3)) ∷ []) (pos 1) (4 ∷ []) ∷ Out 6
    ∷ Rup (one_of (negated (positive_of 2)) ∷ one_of (negated (positive_of 3)) ∷ []) (pos 1) (4 ∷ []) ∷ Out 7
    ∷ Del (4 ∷ []) ∷ []
two_of_three = refl

-- 9 ~x1 + 7 ~x2 + 4 ~x3 + 4 ~x4 >= 18: the units go, the other coefficients are cut at 2, and divided by it
pub by_two : core_ops (record { terms = weighing 9 1 ∷ weighing 7 2 ∷ weighing 4 3 ∷ weighing 4 4 ∷ []; degree = 18 }) 1 ≡ Push 1 ∷ Weaken 1 ∷ Weaken 2 ∷ Saturate ∷ Div (pos 2) ∷ []
by_two = refl

-- 4 ~x1 + 3 ~x2 + 2 ~x3 >= 4: nothing is divided
pub by_one : core_ops (record { terms = weighing 4 1 ∷ weighing 3 2 ∷ weighing 2 3 ∷ []; degree = 4 }) 1 ≡ Push 1 ∷ Saturate ∷ Div (pos 1) ∷ []
by_one = refl
