-- The lines of justifications are within their limits, and short.
use Rattle.std.proofs.Common.{◌≢◌, ◌≤◌, ◌<◌, ◌+◌, ◌*◌, ◌^◌, ℕ, List, [], ◌∷◌, length, refl, arith, get_or}
use Rattle.std.proofs.Math.Nat.{mul-le-mul_right}
use Rattle.std.specs.Prelude.{All, map, sum_by}
use Rattle.std.proofs.lemmas.List.{length-map}
use Rattle.std.proofs.lemmas.List.Elements.{All-head, All-tail, All-map}
use Rattle.std.proofs.lemmas.List.Sums.{sum_by-cons}
use Rattle.pb_base.specs.declared.literal.Lit.{Lit}
use Rattle.pb_steps.specs.declared.step.Step.TheVariants.{Pol}
use Rattle.pb_steps.specs.Sayable.{IsId, IsVariable, IsSayable}
use Rattle.pb_steps.specs.StepSizes.{step_size}
use Rattle.pb_derive.specs.Claims.{Claim}
use Rattle.pb_derive.specs.Reifications.{Reification}
use Rattle.pb_derive.specs.Phases.{phases}
use Rattle.pb_derive.specs.Justifications.{Justification, by_justification, closing}
use Rattle.pb_derive.specs.Short.{AreShort}
use Rattle.pb_derive.proofs.Sayable.{closing_sayable}
use Rattle.pb_derive.proofs.Short.{phases_short}
use Rattle.pb_derive.proofs.Sizes.{closing-size}

-- a justification by one or two constraints, with at most n variables beside
pub record IsSlimJustification (n : ℕ) (r : Justification) : Type 0 where
  pub some : r.ids ≢ []
  pub two : length r.ids ≤ 2
  pub ids : All IsId r.ids
  pub variables : All IsVariable r.weakened
  pub few : length r.weakened ≤ n

some_sayable : (clause : List Lit) (ids vs : List ℕ) → ids ≢ [] → All IsId ids → All IsVariable vs → IsSayable (Pol (closing (record { clause = clause; ids = ids; weakened = vs })))
some_sayable clause [] vs some known gone = absurd (some refl)
some_sayable clause (id ∷ ids) vs some known gone = closing_sayable clause id ids vs known gone

pub justification_sayable : (n : ℕ) (r : Justification) → IsSlimJustification n r → IsSayable (by_justification r).step
justification_sayable n r h = some_sayable r.clause r.ids r.weakened h.some h.ids h.variables

pub justifications_sayable : (n : ℕ) (rs : List Justification) → All (IsSlimJustification n) rs → All (λ c. IsSayable c.step) (map by_justification rs)
justifications_sayable n rs h = All-map (λ (c : Claim). IsSayable c.step) by_justification rs (λ i d w. justification_sayable n (get_or rs i d) (h i d w))

-- how many variables go
abbrev pub gone_in : List Justification → ℕ
gone_in rs = sum_by (λ r. length r.weakened) rs

pub justifications-size : (n : ℕ) (rs : List Justification) → All (IsSlimJustification n) rs → sum_by (λ c. step_size c.step) (map by_justification rs) ≤ 89 * length rs + 14 * gone_in rs
justifications-size n [] h = omega arith
justifications-size n (r ∷ rs) h =
    omega (
      arith,
      sum_by-cons (λ (c : Claim). step_size c.step) (by_justification r) (map by_justification rs),
      sum_by-cons (λ (r : Justification). length r.weakened) r rs,
      closing-size r,
      (All-head (IsSlimJustification n) r rs h).two,
      justifications-size n rs (All-tail (IsSlimJustification n) r rs h),
    )

-- many justifications of few variables each, or few of many
pub justifications_short : (n next : ℕ) (ms : List Reification) (rs : List Justification) → All IsSayable (phases next ms (map by_justification rs)) → n ≤ 2 ^ 21 → All (λ m. length m.sum ≤ n) ms → All (IsSlimJustification n) rs
    → gone_in rs ≤ 28 * ((length ms + 1) * n) → AreShort n (length ms) (length (map by_justification rs)) (phases next ms (map by_justification rs))
justifications_short n next ms rs sayable few sums slim gone =
    phases_short n next ms (map by_justification rs) sayable few sums
    (All-map (λ (c : Claim). step_size c.step ≤ 2 ^ 28) by_justification rs (λ i d w. let own = h_at i d w in omega (arith, closing-size (get_or rs i d), own.two, own.few, few)))
    (omega (arith, justifications-size n rs slim, length-map rs by_justification, gone))
  where
    h_at : (i : ℕ) (d : Justification) → i < length rs → IsSlimJustification n (get_or rs i d)
    h_at i d w = slim i d w

-- at most n variables for each justification, and so many justifications for each reification
pub gone_few : (n k : ℕ) (rs : List Justification) → All (IsSlimJustification n) rs → length rs ≤ 28 * k → gone_in rs ≤ 28 * (k * n)
gone_few n k rs h few =
    omega (arith, gone_each rs h, mul-le-mul_right n few)
  where
    gone_each : (rs : List Justification) → All (IsSlimJustification n) rs → gone_in rs ≤ length rs * n
    gone_each [] h = omega arith
    gone_each (r ∷ rs) h =
        omega (arith, sum_by-cons (λ (r : Justification). length r.weakened) r rs, (All-head (IsSlimJustification n) r rs h).few, gone_each rs (All-tail (IsSlimJustification n) r rs h))
