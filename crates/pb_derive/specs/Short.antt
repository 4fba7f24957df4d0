-- How long the lines of a derivation may be (our own).
use Rattle.std.specs.Prelude.{◌≤◌, ◌+◌, ◌*◌, ◌^◌, ℕ, List, All, length, sum_by}
use Rattle.pb_steps.specs.declared.step.Step.{Step}
use Rattle.pb_steps.specs.StepText.{step_line}

-- the bytes of a step's line and its LF
abbrev pub line_size : Step → ℕ
line_size s = length (step_line s) + 1

-- each line, and all together, of the clauses that stand for a sum of n terms
pub record AreShort (n fresh clauses : ℕ) (steps : List Step) : Type 0 where
  pub each : All (λ s. line_size s ≤ 2 ^ 28) steps
  pub all : sum_by line_size steps ≤ 512 * (fresh + 1) * n + 2 ^ 20 * (fresh + clauses + 3)
