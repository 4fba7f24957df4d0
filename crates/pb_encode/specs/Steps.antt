-- The steps that derive the clauses of a problem: those of its groups of constraints, one after another, and those of a table of bounds, between the lines that frame them. Our own.
use Rattle.std.specs.Prelude.{ℕ, ◌+◌, List, [], ◌∷◌, ◌++◌, length}
use Rattle.pb_base.specs.declared.problem.Problem.{Problem}
use Rattle.pb_base.specs.Problems.{originals}
use Rattle.pb_norm.specs.Products.{loaded_of}
use Rattle.pb_steps.specs.declared.step.Step.{Step}
use Rattle.pb_steps.specs.declared.step.Step.TheVariants.{Head, Loaded, End}
use Rattle.pb_derive.specs.FollowedBy.{followed_by}
use Rattle.pb_base.specs.declared.options.Options.{Options}
use Rattle.pb_gentot.specs.BoundTableSteps.{table_steps}
use Rattle.pb_encode.specs.Clauses.{table_first}
use Rattle.pb_encode.specs.declared.groups.Group.{Group}
use Rattle.pb_encode.specs.Groups.{group_fresh, group_size, group_steps, groups_of}
use Rattle.pb_encode.specs.Tables.{table_terms}

-- The constraints stand under neighbouring ids, from `id` on. The fresh variables of each group come after those of the groups before it, as in its clauses.
abbrev pub steps_from : Options → ℕ → ℕ → List Group → ℕ → List Step
steps_from o first id [] next = []
steps_from o first id (g ∷ gs) next = followed_by (group_steps o g first id) (steps_from o (first + group_fresh o g) (id + group_size g) gs) next

-- over the loaded constraints, whose ids are their places from 1 on; those of the table come last
abbrev pub loaded_steps : Options → Problem → List Step
loaded_steps o p = followed_by (steps_from o (originals p + 1) 1 (groups_of p)) (table_steps (table_terms o p) (table_first o p)) (length (loaded_of p) + 1)

-- with the lines that stand around them
abbrev pub problem_steps : Options → Problem → List Step
problem_steps o p = Head ∷ Loaded (length (loaded_of p)) ∷ (loaded_steps o p ++ End ∷ [])
