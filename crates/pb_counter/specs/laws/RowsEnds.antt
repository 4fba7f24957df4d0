-- Where the ids of some rows end.
use Rattle.std.proofs.Common.{◌≡◌, ◌≤◌, ◌<◌, ◌+◌, ◌-◌, ◌*◌, ◌^◌, ◌⊎◌, inl, inr, ℕ, zero, suc, Bool, true, false, leb, refl, arith}
use Rattle.pb_counter.specs.CounterHalves.{RowsEnd, both_end, rows_end}
use Rattle.pb_counter.specs.laws.RowStages.{OrId, AreBeside}

-- the order of the last row, and the sum of all rows, beside it
pub record IsEnd (e : RowsEnd) (last next : ℕ) : Type 0 where
  pub order_from : next ≤ e.order
  pub climb_from : next ≤ e.climb
  pub order_before : e.order + (2 * last + 1) ≤ e.next
  pub climb_before : e.climb < e.next
  pub apart : (e.climb < e.order) ⊎ (e.order + (2 * last + 1) ≤ e.climb)

both_is : (one other : RowsEnd) (last next : ℕ) → IsEnd one last (next + 1) → IsEnd other last (one.next + 1) → IsEnd (both_end other) last next
both_is one other last next h k = record {
  order_from = omega (arith, h.climb_from, h.climb_before, k.order_from);
  climb_from = omega (arith, h.climb_from, h.climb_before, k.climb_from, k.climb_before);
  order_before = omega (arith, k.order_before);
  climb_before = omega arith;
  apart = inr k.order_before;
}

-- what holds of both choices, where each is made
pub either_chosen : {A : Type 0} (b : Bool) (x y : A) (P : A → Type 0) → (b ≡ true → P x) → (b ≡ false → P y) → P (elim b as (λ _. A) [ true ↦ x | false ↦ y ])
either_chosen true x y P h k = h refl
either_chosen false x y P h k = k refl

pub end_is : (n count last next : ℕ) → IsEnd (rows_end n count last next) last next
unfolding rows_end
end_is zero count last next = record {
  order_from = omega arith;
  climb_from = omega arith;
  order_before = omega arith;
  climb_before = omega arith;
  apart = inl (omega arith);
}
end_is (suc n) count last next =
    let one = rows_end n (2 ^ n) last (next + 1) in
    let other = rows_end n (count - 2 ^ n) last (one.next + 1) in
    either_chosen (leb count (2 ^ n)) (rows_end n count last next) (both_end other) (λ e. IsEnd e last next) (λ within. end_is n count last next) (λ beyond. both_is one other last next (end_is n (2 ^ n) last (next + 1)) (end_is n (count - 2 ^ n) last (one.next + 1)))

-- what was held before, the id before the rows and that of their sum are beside the order of the last row
pub ends_beside : (R : ℕ → Type 0) (last order next : ℕ) (e : RowsEnd) → IsEnd e last (next + 1) → AreBeside R last order next → AreBeside (OrId (OrId R next) e.climb) last e.order e.next
ends_beside R last order next e h others i (inl (inl r)) = (omega (arith, (others i r).0, h.climb_from, h.climb_before), inl (omega (arith, (others i r).0, h.order_from)))
ends_beside R last order next e h others i (inl (inr same)) = (omega (arith, same, h.climb_from, h.climb_before), inl (omega (arith, same, h.order_from)))
ends_beside R last order next e h others i (inr same) =
    (omega (arith, same, h.climb_before), elim h.apart as (λ _. (i < e.order) ⊎ (e.order + (2 * last + 1) ≤ i)) [ inl below ↦ inl (omega (arith, same, below)) | inr above ↦ inr (omega (arith, same, above)) ])
