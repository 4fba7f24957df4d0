-- The lines of a derivation in three parts are short.
use Rattle.std.proofs.Common.{◌≤◌, ◌+◌, ◌*◌, ◌^◌, ℕ, List, [], ◌∷◌, length, arith, get_or}
use Rattle.std.specs.Prelude.{All, sum_by}
use Rattle.std.proofs.lemmas.List.Elements.{All-head, All-tail, All-weaker}
use Rattle.std.proofs.lemmas.List.Sums.{sum_by-cons}
use Rattle.pb_steps.specs.declared.step.Step.{Step}
use Rattle.pb_steps.specs.Sayable.{IsSayable}
use Rattle.pb_steps.specs.StepSizes.{step_size}
use Rattle.pb_steps.proofs.Sizes.{lines_are_bounded}
use Rattle.pb_derive.specs.Claims.{Claim}
use Rattle.pb_derive.specs.Reifications.{Reification}
use Rattle.pb_derive.specs.Phases.{phases}
use Rattle.pb_derive.specs.Short.{line_size, AreShort}
use Rattle.pb_derive.proofs.Sizes.{phases-size, phases_each}

-- no line is longer than its parts say
pub lines_sized : (steps : List Step) → All IsSayable steps → sum_by line_size steps ≤ sum_by step_size steps
lines_sized [] h = omega arith
lines_sized (s ∷ steps) h =
    omega (
      arith,
      sum_by-cons line_size s steps,
      sum_by-cons step_size s steps,
      lines_are_bounded s (All-head IsSayable s steps h),
      lines_sized steps (All-tail IsSayable s steps h),
    )

pub line_sized : (most : ℕ) (steps : List Step) → All IsSayable steps → All (λ s. step_size s ≤ most) steps → All (λ s. line_size s ≤ most) steps
line_sized most steps h k = λ i d w. omega (arith, lines_are_bounded (get_or steps i d) (h i d w), k i d w)

-- reifications of sums of at most n terms take little, and so must the clauses
pub phases_short : (n next : ℕ) (ms : List Reification) (cs : List Claim) → All IsSayable (phases next ms cs) → n ≤ 2 ^ 21 → All (λ m. length m.sum ≤ n) ms → All (λ c. step_size c.step ≤ 2 ^ 28) cs
    → sum_by (λ c. step_size c.step) cs ≤ 400 * (length ms + 1) * n + 2 ^ 19 * (length ms + length cs + 4)
    → AreShort n (length ms) (length cs) (phases next ms cs)
phases_short n next ms cs sayable few sums each all =
    let size = phases-size (238 + 106 * n) next ms cs (All-weaker (λ (m : Reification). length m.sum ≤ n) (λ (m : Reification). 238 + 106 * length m.sum ≤ 238 + 106 * n) (λ m h. omega (arith, h)) ms sums) in
    record {
      each = line_sized (2 ^ 28) (phases next ms cs) sayable
          (phases_each (2 ^ 28) (omega arith) next ms cs (All-weaker (λ (m : Reification). length m.sum ≤ n) (λ (m : Reification). 119 + 53 * length m.sum ≤ 2 ^ 28) (λ m h. omega (arith, h, few)) ms sums) each);
      all = omega (arith, lines_sized (phases next ms cs) sayable, size, all);
    }
