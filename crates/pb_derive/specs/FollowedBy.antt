-- Steps that are written from the next id on (our own).
use Rattle.std.specs.Prelude.{ℕ, ◌+◌, List, ◌++◌, count_by}
use Rattle.pb_steps.specs.declared.step.Step.{Step}
use Rattle.pb_steps.specs.Steps.{takes_id}

-- the second part goes on with the id behind the first
abbrev pub followed_by : (ℕ → List Step) → (ℕ → List Step) → ℕ → List Step
followed_by f g next = f next ++ g (next + count_by takes_id (f next))
