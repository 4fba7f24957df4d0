-- Steps that lines can say, each at most so long, and all together.
use Rattle.std.proofs.Common.{◌≤◌, ◌<◌, ◌+◌, ◌*◌, ◌^◌, ℕ, List, ◌∷◌, ◌++◌, length, arith}
use Rattle.std.specs.Prelude.{All, sum_by}
use Rattle.std.proofs.lemmas.List.Elements.{All-cons, All-append, All-weaker}
use Rattle.std.proofs.lemmas.List.Sums.{sum_by-cons, sum_by-append, sum_by-le}
use Rattle.pb_steps.specs.declared.step.Step.{Step}
use Rattle.pb_steps.specs.Sayable.{IsSayable}
use Rattle.pb_steps.specs.StepSizes.{step_size}
use Rattle.pb_derive.specs.Claims.{Claim, claim_steps}
use Rattle.pb_derive.specs.Deletions.{deletion_steps}
use Rattle.pb_derive.specs.Reifications.{Reification, reification_steps}
use Rattle.pb_derive.specs.Short.{AreShort}
use Rattle.pb_derive.proofs.Sayable.{IsSlimReification, reifications_sayable, claims_sayable, deletions_sayable}
use Rattle.pb_derive.proofs.Short.{lines_sized, line_sized}
use Rattle.pb_derive.proofs.Sizes.{reifications-size, claims-size, deletions-size, reifications_each, claims_each, deletions_each}

pub record AreFine (most all : ℕ) (steps : List Step) : Type 0 where
  pub sayable : All IsSayable steps
  pub each : All (λ s. step_size s ≤ most) steps
  pub all_sized : sum_by step_size steps ≤ all

-- longer lines, and more of them
pub fine_within : (most more a b : ℕ) (ss : List Step) → most ≤ more → a ≤ b → AreFine most a ss → AreFine more b ss
fine_within most more a b ss longer le h = record {
  sayable = h.sayable;
  each = All-weaker (λ (s : Step). step_size s ≤ most) (λ (s : Step). step_size s ≤ more) (λ s k. omega (arith, k, longer)) ss h.each;
  all_sized = omega (arith, h.all_sized, le);
}

-- within what the clauses of a sum of n terms may take
pub fine_short : (most all n fresh clauses : ℕ) (ss : List Step) → most ≤ 2 ^ 28 → all ≤ 512 * (fresh + 1) * n + 2 ^ 20 * (fresh + clauses + 3) → AreFine most all ss → AreShort n fresh clauses ss
fine_short most all n fresh clauses ss short few h = record {
  each = line_sized (2 ^ 28) ss h.sayable (All-weaker (λ (s : Step). step_size s ≤ most) (λ (s : Step). step_size s ≤ 2 ^ 28) (λ s k. omega (arith, k, short)) ss h.each);
  all = omega (arith, lines_sized ss h.sayable, h.all_sized, few);
}

module _ (most : ℕ) where
  abbrev Fits : Step → Type 0
  Fits s = step_size s ≤ most

  pub fine_cons : (all : ℕ) (s : Step) (ss : List Step) → IsSayable s → step_size s ≤ most → AreFine most all ss → AreFine most (step_size s + all) (s ∷ ss)
  fine_cons all s ss said fits h = record {
    sayable = All-cons IsSayable s ss said h.sayable;
    each = All-cons Fits s ss fits h.each;
    all_sized = omega (arith, sum_by-cons step_size s ss, h.all_sized);
  }

  pub fine_append : (a b : ℕ) (xs ys : List Step) → AreFine most a xs → AreFine most b ys → AreFine most (a + b) (xs ++ ys)
  fine_append a b xs ys h k = record {
    sayable = All-append IsSayable xs ys h.sayable k.sayable;
    each = All-append Fits xs ys h.each k.each;
    all_sized = omega (arith, sum_by-append step_size xs ys, h.all_sized, k.all_sized);
  }

  -- clauses by steps that take at most so much
  pub fine_claims : (one next : ℕ) (cs : List Claim) → 44 ≤ most → one ≤ most → 1 ≤ next → next + length cs < 2 ^ 63 → All (λ c. IsSayable c.step) cs → All (λ c. step_size c.step ≤ one) cs → AreFine most ((one + 24) * length cs) (claim_steps next cs)
  fine_claims one next cs room less low high said sizes = record {
    sayable = claims_sayable next cs low high said;
    each = claims_each most room next cs (All-weaker (λ (c : Claim). step_size c.step ≤ one) (λ (c : Claim). step_size c.step ≤ most) (λ c h. omega (arith, h, less)) cs sizes);
    all_sized = omega (arith, claims-size next cs, sum_by-le (λ (c : Claim). step_size c.step) one cs sizes);
  }

  -- ---- the parts of a derivation, where no sum and nothing that goes has more than n terms

  pub fine_reifications : (n next : ℕ) (ms : List Reification) → 119 + 53 * n ≤ most → 1 ≤ next → next + 2 * length ms < 2 ^ 63 → All IsSlimReification ms → All (λ m. length m.sum ≤ n) ms
      → AreFine most ((238 + 106 * n) * length ms) (reification_steps next ms)
  fine_reifications n next ms room low high slim few = record {
    sayable = reifications_sayable next ms low high slim;
    each = reifications_each most (omega (arith, room)) next ms (All-weaker (λ (m : Reification). length m.sum ≤ n) (λ (m : Reification). 119 + 53 * length m.sum ≤ most) (λ m h. omega (arith, h, room)) ms few);
    all_sized = reifications-size (238 + 106 * n) next ms (All-weaker (λ (m : Reification). length m.sum ≤ n) (λ (m : Reification). 238 + 106 * length m.sum ≤ 238 + 106 * n) (λ m h. omega (arith, h)) ms few);
  }

  pub fine_deletions : (id n : ℕ) → 44 ≤ most → 1 ≤ id → id + 2 * n < 2 ^ 63 → AreFine most (44 * n) (deletion_steps 2 id n)
  fine_deletions id n room low high = record { sayable = deletions_sayable id n low high; each = deletions_each most room id n; all_sized = omega (arith, deletions-size id n) }
