-- What the steps of a problem show, as whoever checks a derivation asks it. Our own.
use Rattle.std.specs.Prelude.{◌+◌, ◌*◌, ◌≤◌, All, length}
use Rattle.pb_base.specs.declared.problem.Problem.{Problem}
use Rattle.pb_base.specs.Problems.{originals}
use Rattle.pb_norm.specs.Products.{loaded_of}
use Rattle.pb_steps.specs.Database.{Database, loaded_database}
use Rattle.pb_steps.specs.Runs.{Runs}
use Rattle.pb_steps.specs.Sayable.{IsSayable}
use Rattle.pb_family.specs.StepSinks.{steps_text}
use Rattle.pb_base.specs.declared.options.Options.{Options}
use Rattle.pb_dimacs.specs.CnfWhole.{IsTextWithin}
use Rattle.pb_encode.specs.Clauses.{problem_clauses, problem_count, problem_fresh, problem_vars}
use Rattle.pb_encode.specs.Steps.{loaded_steps, problem_steps}

-- Over the loaded constraints the steps are allowed one after the other and put out the clauses. They are few, lines can say them, and these lines are within the limits of a text.
pub record IsDerived (o : Options) (p : Problem) : Type 0 where
  pub end : Database
  pub runs : Runs (loaded_database (originals p) (problem_vars o p) (loaded_of p)) (loaded_steps o p) (problem_clauses o p) end
  pub few : length (problem_steps o p) ≤ 8 * (problem_fresh o p + problem_count o p) + 4 * length (loaded_of p) + 8
  pub sayable : All IsSayable (problem_steps o p)
  pub within : IsTextWithin (steps_text (problem_steps o p))
