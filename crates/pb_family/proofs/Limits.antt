-- Variables and ids are within the limits of lines, where a derivation may start.
use Rattle.std.proofs.Common.{◌≡◌, ◌<◌, ◌≤◌, ◌+◌, ◌*◌, ◌^◌, ◌⊎◌, ℕ, List, arith, inl, inr}
use Rattle.std.specs.Prelude.{All}
use Rattle.std.proofs.lemmas.List.Elements.{All-weaker}
use Rattle.pb_norm.specs.Constraints.{Weighted}
use Rattle.pb_steps.specs.Sayable.{IsId, IsVariable}
use Rattle.pb_family.specs.Derivations.{AreOriginal, MayStart}

pub variables_of : (first fresh id next : ℕ) (ts : List Weighted) → AreOriginal first ts → MayStart first fresh id next → All (λ t. IsVariable t.lit.var) ts
variables_of first fresh id next ts original start =
    All-weaker (λ (t : Weighted). (1 ≤ t.lit.var) × (t.lit.var < first)) (λ (t : Weighted). IsVariable t.lit.var) (λ t h. (h.0, (let below : t.lit.var < 2 ^ 31 = omega (arith, h.1, start.fits) in below))) ts original

-- the id of the sum's constraint, or of a fresh variable's
pub id_of : (first fresh id next i : ℕ) → MayStart first fresh id next → (i ≡ id) ⊎ ((next ≤ i) × (i < next + 2 * fresh)) → IsId i
id_of first fresh id next i start which =
    elim which as (λ _. IsId i) [
      | inl own ↦ ((let from : 1 ≤ i = omega (arith, own, start.given) in from), (let below : i < 2 ^ 63 = omega (arith, own, start.known, start.few) in below))
      | inr other ↦ ((let from : 1 ≤ i = omega (arith, other.0, start.known) in from), (let below : i < 2 ^ 63 = omega (arith, other.1, start.fits, start.few) in below))
    ]
