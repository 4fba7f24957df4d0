-- The children of a node do not depend on the residue that is chosen in its interval.
use Rattle.std.proofs.Common.{◌≡◌, ◌<◌, ◌≤◌, ◌+◌, ◌-◌, ℕ, List, ◌∷◌, subst, arith}
use Rattle.std.specs.Prelude.{Contains, sum}
use Rattle.pb_diagram.specs.declared.interval.Interval.{Interval}
use Rattle.pb_diagram.specs.Intervals.{IsPartSum, IsIntervalOf, ChildrenAreOfNodes}
use Rattle.pb_diagram.specs.Sums.{sums}
use Rattle.pb_diagram.specs.laws.SumFacts.{sums_without, sums_with, sums_none, sums_all}
use Rattle.pb_diagram.proofs.Intervals.{part_of_sum, from_part}

-- a sum of the interval's list is above one residue where it is above the other
above_too : (all : List ℕ) (r s : ℕ) (g : Interval) → IsIntervalOf all r g → IsIntervalOf all s g → (t : ℕ) → Contains (sums all) t → r < t → s < t
above_too all r s g is_r is_s t among above =
    let top = is_r.least t (part_of_sum all t among) above in
    let end = is_s.above in
    omega arith

not_above_too : (all : List ℕ) (r s : ℕ) (g : Interval) → IsIntervalOf all r g → IsIntervalOf all s g → (t : ℕ) → Contains (sums all) t → t ≤ r → t ≤ s
not_above_too all r s g is_r is_s t among le =
    let low = is_r.greatest t (part_of_sum all t among) le in
    let begin = is_s.low_le in
    omega arith

false_child : (a : ℕ) (rest : List ℕ) (r s : ℕ) (g : Interval) → IsIntervalOf (a ∷ rest) r g → IsIntervalOf (a ∷ rest) s g → (h : Interval) → IsIntervalOf rest r h → IsIntervalOf rest s h
false_child a rest r s g is_r is_s h is_h =
    let over = λ (t : ℕ) (part : IsPartSum rest t). sums_without a rest t (from_part rest t part) in
    record {
      low_is_sum = is_h.low_is_sum;
      low_le = not_above_too (a ∷ rest) r s g is_r is_s h.low (over h.low is_h.low_is_sum) is_h.low_le;
      greatest = λ t part le. is_h.greatest t part (not_above_too (a ∷ rest) s r g is_s is_r t (over t part) le);
      top_is_sum = is_h.top_is_sum;
      above = above_too (a ∷ rest) r s g is_r is_s h.top (over h.top is_h.top_is_sum) is_h.above;
      least = λ t part above. is_h.least t part (above_too (a ∷ rest) s r g is_s is_r t (over t part) above);
    }

true_child : (a : ℕ) (rest : List ℕ) (r s : ℕ) (g : Interval) → IsIntervalOf (a ∷ rest) r g → IsIntervalOf (a ∷ rest) s g → a ≤ r → a ≤ s → (h : Interval) → IsIntervalOf rest (r - a) h → IsIntervalOf rest (s - a) h
true_child a rest r s g is_r is_s room room_too h is_h =
    let over = λ (t : ℕ) (part : IsPartSum rest t). sums_with a rest t (from_part rest t part) in
    let low_le = is_h.low_le in
    let above = is_h.above in
    let begin = not_above_too (a ∷ rest) r s g is_r is_s (a + h.low) (over h.low is_h.low_is_sum) (omega arith) in
    let end = above_too (a ∷ rest) r s g is_r is_s (a + h.top) (over h.top is_h.top_is_sum) (omega arith) in
    record {
      low_is_sum = is_h.low_is_sum;
      low_le = omega arith;
      greatest = λ t part le. is_h.greatest t part (let back = not_above_too (a ∷ rest) s r g is_s is_r (a + t) (over t part) (omega arith) in omega arith);
      top_is_sum = is_h.top_is_sum;
      above = omega arith;
      least = λ t part past. is_h.least t part (let back = above_too (a ∷ rest) s r g is_s is_r (a + t) (over t part) (omega arith) in omega arith);
    }

-- the coefficient by itself is a sum
alone : (a : ℕ) (rest : List ℕ) → Contains (sums (a ∷ rest)) a
alone a rest = let same : a + 0 ≡ a = omega arith in subst (λ (n : ℕ). Contains (sums (a ∷ rest)) n) same (sums_with a rest 0 (sums_none rest))

below_too : (a : ℕ) (rest : List ℕ) (r s : ℕ) (g : Interval) → IsIntervalOf (a ∷ rest) r g → IsIntervalOf (a ∷ rest) s g → a ≤ r → a ≤ s
below_too a rest r s g is_r is_s room = not_above_too (a ∷ rest) r s g is_r is_s a (alone a rest) room

pub children_are_of_nodes : ChildrenAreOfNodes
children_are_of_nodes a rest r s g is_r is_s =
    let whole = sums_without a rest (sum rest) (sums_all rest) in
    record {
      true_end = (not_above_too (a ∷ rest) r s g is_r is_s (sum rest) whole, not_above_too (a ∷ rest) s r g is_s is_r (sum rest) whole);
      false_child = λ h. (false_child a rest r s g is_r is_s h, false_child a rest s r g is_s is_r h);
      false_end = (above_too (a ∷ rest) r s g is_r is_s a (alone a rest), above_too (a ∷ rest) s r g is_s is_r a (alone a rest));
      true_child = λ room h.
          let room_too = below_too a rest r s g is_r is_s room in
          (true_child a rest r s g is_r is_s room room_too h, true_child a rest s r g is_s is_r room_too room h);
    }
