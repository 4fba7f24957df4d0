-- What an accepted run shows (our own).
use Rattle.std.specs.Prelude.{ℕ, List, All}
use Rattle.pb_base.specs.declared.literal.Lit.{Lit}
use Rattle.pb_norm.specs.Constraints.{Constraint, IsAscending}
use Rattle.pb_steps.specs.declared.step.Step.{Step}
use Rattle.pb_steps.specs.Database.{Database, loaded_database}
use Rattle.pb_steps.specs.Runs.{Runs}
use Rattle.pb_steps.specs.Extends.{Extends}

-- every solution of the loaded constraints extends to a model of what was put out
abbrev pub AcceptedExtends : Type 0
AcceptedExtends =
    (original vars : ℕ) (loaded : List Constraint) (steps : List Step) (cs : List (List Lit)) (end : Database) →
    All (λ c. IsAscending c.terms) loaded → Runs (loaded_database original vars loaded) steps cs end → Extends original loaded cs
