-- How sums of terms grow, and how far they reach.
use Rattle.std.proofs.Common.{◌≡◌, ℕ, ◌+◌, ◌<◌, List, ◌∷◌, take, length, get_or, pos, ◌+ℤ◌, neg_ℤ, ◌≤ℤ◌, arith, ap, sym, ◌∙◌}
use Rattle.std.specs.Int.RustNames.{unsigned_abs}
use Rattle.std.proofs.lemmas.Int.{ints}
use Rattle.std.proofs.lemmas.List.Sums.{sum_by-cons, sum_by-take-le}
use Rattle.pb_base.specs.declared.literal.Term.{Term}
use Rattle.pb_base.specs.Literals.{Assignment, lit_value}
use Rattle.pb_base.specs.Problems.{sum_value, written_value, magnitude}
use Rattle.pb_base.proofs.IntSums.{int_sum_by_more}
use Rattle.pb_norm.proofs.NetBounds.{sum_value_bounds, value_bounds}

pub sum_more : (a : Assignment) (ts : List Term) (i : ℕ) (t : Term) → i < length ts → t ≡ get_or ts i t → sum_value a (take (i + 1) ts) ≡ sum_value a (take i ts) +ℤ written_value a t
sum_more a ts i t h e = int_sum_by_more (written_value a) ts i t h ∙ ap (λ u. sum_value a (take i ts) +ℤ written_value a u) (sym e)

pub sum_take_bounds : (a : Assignment) (ts : List Term) (i : ℕ) → (sum_value a (take i ts) ≤ℤ pos (magnitude ts)) × (neg_ℤ (pos (magnitude ts)) ≤ℤ sum_value a (take i ts))
sum_take_bounds a ts i =
    let part = sum_value_bounds a (take i ts) in
    let less = sum_by-take-le (λ (u : Term). unsigned_abs u.coef) ts i in
    (omega (arith, ints, part.0, less), omega (arith, ints, part.1, less))

-- what the first one of the terms that are left adds
pub record IsFirst (a : Assignment) (left rest : List Term) (t : Term) : Type 0 where
  pub size : magnitude left ≡ unsigned_abs t.coef + magnitude rest
  pub high : written_value a t ≤ℤ pos (unsigned_abs t.coef)
  pub low : neg_ℤ (pos (unsigned_abs t.coef)) ≤ℤ written_value a t
  pub value : sum_value a left ≡ written_value a t +ℤ sum_value a rest

pub first_of : (a : Assignment) (left rest : List Term) (t : Term) → left ≡ t ∷ rest → IsFirst a left rest t
first_of a left rest t first =
    let bounds = value_bounds (lit_value a t.lit) t.coef in
    record {
      size = ap magnitude first ∙ sum_by-cons (λ (u : Term). unsigned_abs u.coef) t rest;
      high = bounds.0;
      low = bounds.1;
      value = ap (sum_value a) first;
    }
