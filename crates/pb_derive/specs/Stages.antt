-- Derivations in stages: constraints are added, some of them are put out, and others are deleted (our own).
use Rattle.std.specs.Prelude.{ℕ, List, [], ◌∷◌, ◌++◌}
use Rattle.pb_steps.specs.declared.step.Step.{Step}
use Rattle.pb_steps.specs.declared.step.Step.TheVariants.{Del}
use Rattle.pb_derive.specs.Outputs.{Output, output_steps}

abbrev pub stage_steps : List Step → List Output → List ℕ → List Step
stage_steps added outputs deleted = added ++ (output_steps outputs ++ Del deleted ∷ [])
