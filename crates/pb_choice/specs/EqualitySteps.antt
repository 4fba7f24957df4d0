-- The steps that derive the clauses of an equality from its two halves (our own; cutting planes, as in Gocht et al. 2022).
use Rattle.std.specs.Prelude.{ℕ, ℤ, pos, ◌+◌, List, [], ◌∷◌, ◌++◌, if◌then◌else◌}
use Rattle.pb_norm.specs.BoundedSums.{BoundedSum}
use Rattle.pb_norm.specs.Constraints.{Constraint}
use Rattle.pb_norm.specs.Reduction.{first_coef}
use Rattle.pb_steps.specs.declared.op.PolOp.TheVariants.{Push, Div}
use Rattle.pb_steps.specs.declared.step.Step.{Step}
use Rattle.pb_steps.specs.declared.step.Step.TheVariants.{Pol, Del}
use Rattle.pb_derive.specs.FollowedBy.{followed_by}
use Rattle.pb_totalizer.specs.ExactSteps.{exact_steps}
use Rattle.pb_base.specs.declared.options.Options.{Options}
use Rattle.pb_choice.specs.Clauses.{constraint_fresh}
use Rattle.pb_choice.specs.ConstraintSteps.{constraint_steps}
use Rattle.pb_choice.specs.Equals.{is_joint, literals_asked}

-- all numbers of the constraint with the id, divided
abbrev pub quotient_step : ℕ → ℤ → Step
quotient_step id a = Pol (Push id ∷ Div a ∷ [])

-- Both halves, which have the ids `lower` and `upper`, are divided by the coefficient. What they become stands while the clauses are derived from it.
abbrev pub joint_steps : BoundedSum → ℤ → ℕ → ℕ → ℕ → ℕ → List Step
joint_steps m a first lower upper next =
    quotient_step lower a ∷ quotient_step upper a ∷ (exact_steps m first next (next + 1) (next + 2) ++ Del (next ∷ (next + 1) ∷ []) ∷ [])

-- The fresh variables are numbered from the first number on, the others are the ids of the two halves and the next id.
abbrev pub equality_steps : Options → Constraint → Constraint → ℕ → ℕ → ℕ → ℕ → List Step
equality_steps o c d first lower upper next =
    if is_joint o c then joint_steps (literals_asked c) (pos (first_coef c.terms)) first lower upper next
    else followed_by (constraint_steps o c first lower) (constraint_steps o d (first + constraint_fresh o c) upper) next
