-- The plans of an equality's two halves, one after the other. Our own.
use Rattle.std.specs.Prelude.{ℕ, ◌+◌, List, ◌++◌}
use Rattle.pb_base.specs.declared.literal.Lit.{Lit}
use Rattle.pb_steps.specs.declared.step.Step.{Step}
use Rattle.pb_derive.specs.FollowedBy.{followed_by}
use Rattle.pb_choice.specs.declared.plans.Plan.{Plan}
use Rattle.pb_choice.specs.Clauses.{constraint_clauses, constraint_count, constraint_fresh}
use Rattle.pb_choice.specs.ConstraintSteps.{constraint_steps}

abbrev pub plan_fresh : Plan → ℕ
plan_fresh p = constraint_fresh p.options p.constraint.now

abbrev pub plan_count : Plan → ℕ
plan_count p = constraint_count p.options p.constraint.now

abbrev pub plan_clauses : Plan → ℕ → List (List Lit)
plan_clauses p first = constraint_clauses p.options p.constraint.now first

-- the first fresh variable, the constraint's id, and the next id
abbrev pub plan_steps : Plan → ℕ → ℕ → ℕ → List Step
plan_steps p first id next = constraint_steps p.options p.constraint.now first id next

-- the fresh variables of the second come after those of the first
abbrev pub halves_clauses : Plan → Plan → ℕ → List (List Lit)
halves_clauses l u first = plan_clauses l first ++ plan_clauses u (first + plan_fresh l)

abbrev pub halves_steps : Plan → Plan → ℕ → ℕ → ℕ → ℕ → List Step
halves_steps l u first low high next = followed_by (plan_steps l first low) (plan_steps u (first + plan_fresh l) high) next
