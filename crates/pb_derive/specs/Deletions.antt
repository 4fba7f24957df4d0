-- Constraints that are deleted by neighbouring ids (our own).
use Rattle.std.specs.Prelude.{ℕ, zero, suc, ◌+◌, List, [], ◌∷◌}
use Rattle.std.specs.List.{range_with_len}
use Rattle.pb_steps.specs.declared.step.Step.{Step}
use Rattle.pb_steps.specs.declared.step.Step.TheVariants.{Del}

-- so many lines from an id on, each of which deletes the next ids, always the same number of them
abbrev pub deletion_steps : ℕ → ℕ → ℕ → List Step
deletion_steps width id zero = []
deletion_steps width id (suc n) = Del (range_with_len id width) ∷ deletion_steps width (id + width) n
