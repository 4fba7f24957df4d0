-- The derivations of a problem, from the next id on.
use Rattle.std.specs.Prelude.{ℕ, ◌+◌, List}
use Rattle.pb_base.specs.declared.problem.Problem.{Problem}
use Rattle.pb_base.specs.Problems.{originals}
use Rattle.pb_steps.specs.declared.step.Step.{Step}
use Rattle.pb_derive.specs.FollowedBy.{followed_by}
use Rattle.pb_base.specs.declared.options.Options.{Options}
use Rattle.pb_gentot.specs.BoundTableSteps.{table_steps}
use Rattle.pb_encode.specs.Clauses.{table_first}
use Rattle.pb_encode.specs.Groups.{groups_of}
use Rattle.pb_encode.specs.Steps.{steps_from}
use Rattle.pb_encode.specs.Tables.{table_terms}

-- the derivations of all constraints, which stand under the ids from 1 on
abbrev pub loaded_steps_from : Options → Problem → ℕ → List Step
loaded_steps_from o p next = steps_from o (originals p + 1) 1 (groups_of p) next

-- and that of the table
abbrev pub steps_at_next : Options → Problem → ℕ → List Step
steps_at_next o p next = followed_by (loaded_steps_from o p) (table_steps (table_terms o p) (table_first o p)) next
