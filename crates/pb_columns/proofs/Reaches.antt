-- How far the least and the greatest value of a sum reach.
use Rattle.std.proofs.Common.{◌≡◌, ℕ, ◌+◌, ◌<◌, ◌≤◌, ℤ, List, [], ◌∷◌, take, length, get_or, pos, negsuc, ◌+ℤ◌, ◌-ℤ◌, neg_ℤ, ◌≤ℤ◌, arith, ap, sym, ◌∙◌}
use Rattle.std.specs.Int.RustNames.{unsigned_abs}
use Rattle.std.proofs.lemmas.Int.{ints}
use Rattle.std.proofs.lemmas.List.Sums.{sum_by-cons, sum_by-take-le}
use Rattle.pb_base.specs.declared.literal.Term.{Term}
use Rattle.pb_base.specs.Problems.{magnitude}
use Rattle.pb_base.proofs.IntSums.{int_sum_by_more}
use Rattle.pb_columns.specs.Conditions.{greatest, least, negative_part, positive_part}

pub least_more : (ts : List Term) (i : ℕ) (t : Term) → i < length ts → t ≡ get_or ts i t → least (take (i + 1) ts) ≡ least (take i ts) +ℤ negative_part t.coef
least_more ts i t h e = int_sum_by_more (λ (u : Term). negative_part u.coef) ts i t h ∙ ap (λ (u : Term). least (take i ts) +ℤ negative_part u.coef) (sym e)

pub greatest_more : (ts : List Term) (i : ℕ) (t : Term) → i < length ts → t ≡ get_or ts i t → greatest (take (i + 1) ts) ≡ greatest (take i ts) +ℤ positive_part t.coef
greatest_more ts i t h e = int_sum_by_more (λ (u : Term). positive_part u.coef) ts i t h ∙ ap (λ (u : Term). greatest (take i ts) +ℤ positive_part u.coef) (sym e)

part_low : (z : ℤ) → neg_ℤ (pos (unsigned_abs z)) ≤ℤ negative_part z
part_low (pos n) = omega (arith, ints)
part_low (negsuc n) = omega (arith, ints)

part_high : (z : ℤ) → positive_part z ≤ℤ pos (unsigned_abs z)
part_high (pos n) = omega (arith, ints)
part_high (negsuc n) = omega (arith, ints)

negative : (z : ℤ) → negative_part z ≤ℤ pos 0
negative (pos n) = omega (arith, ints)
negative (negsuc n) = omega (arith, ints)

positive : (z : ℤ) → pos 0 ≤ℤ positive_part z
positive (pos n) = omega (arith, ints)
positive (negsuc n) = omega (arith, ints)

pub least_bounds : (ts : List Term) → (neg_ℤ (pos (magnitude ts)) ≤ℤ least ts) × (least ts ≤ℤ pos 0)
least_bounds [] = (omega (arith, ints), omega (arith, ints))
least_bounds (t ∷ ts) =
    let rest = least_bounds ts in
    let size = sum_by-cons (λ (u : Term). unsigned_abs u.coef) t ts in
    (omega (arith, ints, rest.0, part_low t.coef, size), omega (arith, ints, rest.1, negative t.coef))

pub greatest_bounds : (ts : List Term) → (greatest ts ≤ℤ pos (magnitude ts)) × (pos 0 ≤ℤ greatest ts)
greatest_bounds [] = (omega (arith, ints), omega (arith, ints))
greatest_bounds (t ∷ ts) =
    let rest = greatest_bounds ts in
    let size = sum_by-cons (λ (u : Term). unsigned_abs u.coef) t ts in
    (omega (arith, ints, rest.0, part_high t.coef, size), omega (arith, ints, rest.1, positive t.coef))

pub least_take_bounds : (ts : List Term) (i : ℕ) → (neg_ℤ (pos (magnitude ts)) ≤ℤ least (take i ts)) × (least (take i ts) ≤ℤ pos 0)
least_take_bounds ts i =
    let part = least_bounds (take i ts) in
    let less = sum_by-take-le (λ (u : Term). unsigned_abs u.coef) ts i in
    (omega (arith, ints, part.0, less), part.1)

pub greatest_take_bounds : (ts : List Term) (i : ℕ) → (greatest (take i ts) ≤ℤ pos (magnitude ts)) × (pos 0 ≤ℤ greatest (take i ts))
greatest_take_bounds ts i =
    let part = greatest_bounds (take i ts) in
    let less = sum_by-take-le (λ (u : Term). unsigned_abs u.coef) ts i in
    (omega (arith, ints, part.0, less), part.1)

-- ---- a number and its absolute value

pub abs_above : (z : ℤ) → z ≤ℤ pos (unsigned_abs z)
abs_above (pos n) = omega (arith, ints)
abs_above (negsuc n) = omega (arith, ints)

pub abs_below : (z : ℤ) → neg_ℤ (pos (unsigned_abs z)) ≤ℤ z
abs_below (pos n) = omega (arith, ints)
abs_below (negsuc n) = omega (arith, ints)

pub abs_within : (z : ℤ) (n : ℕ) → z ≤ℤ pos n → neg_ℤ (pos n) ≤ℤ z → unsigned_abs z ≤ n
abs_within (pos k) n high low = omega (arith, ints, high)
abs_within (negsuc k) n high low = omega (arith, ints, low)

-- how far a right side is from the least and from the greatest value
pub above_least : (ts : List Term) (right : ℤ) → unsigned_abs (right -ℤ least ts) ≤ magnitude ts + unsigned_abs right
above_least ts right =
    let bounds = least_bounds ts in
    abs_within (right -ℤ least ts) (magnitude ts + unsigned_abs right) (omega (arith, ints, bounds.0, abs_above right)) (omega (arith, ints, bounds.1, abs_below right))

pub below_greatest : (ts : List Term) (right : ℤ) → unsigned_abs (right -ℤ greatest ts) ≤ magnitude ts + unsigned_abs right
below_greatest ts right =
    let bounds = greatest_bounds ts in
    abs_within (right -ℤ greatest ts) (magnitude ts + unsigned_abs right) (omega (arith, ints, bounds.1, abs_above right)) (omega (arith, ints, bounds.0, abs_below right))
