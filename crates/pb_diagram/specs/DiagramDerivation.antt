-- Which steps derive a diagram's clauses: those by guards, where the sum has many terms and levels are narrow (our own).
use Rattle.std.specs.Prelude.{ℕ, List, if◌then◌else◌}
use Rattle.pb_norm.specs.BoundedSums.{BoundedSum}
use Rattle.pb_steps.specs.declared.step.Step.{Step}
use Rattle.pb_diagram.specs.DiagramSteps.{diagram_steps}
use Rattle.pb_diagram.specs.GuardedSteps.{guarded_steps, is_guarded}

-- the first fresh variable, the id of the sum's constraint, and the next id
abbrev pub derivation_steps : BoundedSum → ℕ → ℕ → ℕ → List Step
derivation_steps m first own next = if is_guarded m then guarded_steps m first own next else diagram_steps m first own next
