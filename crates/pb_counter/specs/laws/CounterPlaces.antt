-- The places of a counter's clauses, and how many of the literals before a place pass a test.
use Rattle.std.proofs.Common.{◌≡◌, ◌<◌, ◌≤◌, ◌+◌, ◌-◌, ◌++◌, ℕ, zero, suc, List, [], ◌∷◌, subst, arith, inl, inr, Bool, true, false, cond, length, take, refl, ap}
use Rattle.std.specs.Prelude.{map, All, count_by}
use Rattle.std.specs.List.{range_with_len, flat_map}
use Rattle.std.proofs.lemmas.Bool.{cases_lt}
use Rattle.std.proofs.lemmas.List.Elements.{All-cons, All-nil, All-head, All-tail, All-append}
use Rattle.pb_base.proofs.Members.{All-append_both}
use Rattle.pb_family.proofs.Ranges.{range_each, at_range}
use Rattle.pb_family.proofs.FlatRanges.{flat_each, at_flat}
use Rattle.pb_counter.specs.declared.place.Place.{Place}
use Rattle.pb_counter.specs.declared.place.Place.TheVariants.{Start, Below, One, Keep, More, Stop}
use Rattle.pb_counter.specs.Counter.{row_places, places}
use Rattle.pb_counter.specs.inner.Order.{IsPlace}
use Rattle.std.proofs.Math.Seq.{take-length}
use Rattle.std.proofs.lemmas.List.Sums.{count_by_more_yes, count_by_more_no, sum_by-take-le}
use Rattle.pb_base.specs.declared.literal.Lit.{Lit}
use Rattle.pb_family.specs.Fresh.{positive_of, literal_at}

pub seen : (Lit → Bool) → List Lit → ℕ → ℕ
seen p ms k = count_by p (take k ms)

pub seen_none : (p : Lit → Bool) (ms : List Lit) → seen p ms 0 ≡ 0
unfolding seen
seen_none p ms = refl

pub seen_yes : (p : Lit → Bool) (ms : List Lit) (k : ℕ) → k < length ms → p (literal_at ms k) ≡ true → seen p ms (k + 1) ≡ seen p ms k + 1
unfolding seen
seen_yes p ms k within h = count_by_more_yes p ms k (positive_of 0) within h

pub seen_no : (p : Lit → Bool) (ms : List Lit) (k : ℕ) → k < length ms → p (literal_at ms k) ≡ false → seen p ms (k + 1) ≡ seen p ms k
unfolding seen
seen_no p ms k within h = count_by_more_no p ms k (positive_of 0) within h

pub seen_all : (p : Lit → Bool) (ms : List Lit) → seen p ms (length ms) ≡ count_by p ms
unfolding seen
seen_all p ms = ap (count_by p) (take-length ms)

pub seen_within : (p : Lit → Bool) (ms : List Lit) (k : ℕ) → seen p ms k ≤ count_by p ms
unfolding seen
seen_within p ms k = sum_by-take-le (λ m. cond (p m) 1 0) ms k

-- two clauses for one more place of a row
abbrev pair_places : ℕ → ℕ → List Place
pair_places i j = More i j ∷ Keep i (j + 1) ∷ []

abbrev pairs : ℕ → ℕ → List Place
pairs width i = flat_map (pair_places i) (range_with_len 0 (width - 1))

abbrev belows : ℕ → List Place
belows width = map Below (range_with_len 1 (width - 1))

abbrev rows : ℕ → ℕ → List Place
rows n width = flat_map (row_places width) (range_with_len 0 (n - 2))

-- what holds of all proper places holds of those of a counter
pub each_place : (P : Place → Type 0) (n width : ℕ) → 1 ≤ width → 2 ≤ n → ((p : Place) → IsPlace n width p → P p) → All P (places n width)
each_place P n width some two each =
    All-cons P Start (belows width ++ (rows n width ++ Stop (n - 2) ∷ [])) (each Start tt)
    (All-append P (belows width) (rows n width ++ Stop (n - 2) ∷ [])
    (range_each P Below 1 (width - 1) (λ j low high. each (Below j) (omega arith, omega arith)))
    (All-append P (rows n width) (Stop (n - 2) ∷ [])
    (flat_each P (row_places width) 0 (n - 2) (λ i low high. row i (omega arith)))
    (All-cons P (Stop (n - 2)) [] (each (Stop (n - 2)) (omega arith)) (All-nil P))))
  where
    row : (i : ℕ) → i + 2 < n → All P (row_places width i)
    row i within =
        All-cons P (One i) (Keep i 0 ∷ (pairs width i ++ Stop i ∷ [])) (each (One i) (omega arith))
        (All-cons P (Keep i 0) (pairs width i ++ Stop i ∷ []) (each (Keep i 0) (omega arith, omega arith))
        (All-append P (pairs width i) (Stop i ∷ [])
        (flat_each P (pair_places i) 0 (width - 1) (λ j low high.
        All-cons P (More i j) (Keep i (j + 1) ∷ []) (each (More i j) (omega arith, omega arith)) (All-cons P (Keep i (j + 1)) [] (each (Keep i (j + 1)) (omega arith, omega arith)) (All-nil P))))
        (All-cons P (Stop i) [] (each (Stop i) (omega arith)) (All-nil P))))

-- and the other way round
module _ (P : Place → Type 0) (n width : ℕ) (all : All P (places n width)) where
  front : All P (belows width) × All P (rows n width ++ Stop (n - 2) ∷ [])
  front = All-append_both P (belows width) (rows n width ++ Stop (n - 2) ∷ []) (All-tail P Start (belows width ++ (rows n width ++ Stop (n - 2) ∷ [])) all)

  back : All P (rows n width) × All P (Stop (n - 2) ∷ [])
  back = All-append_both P (rows n width) (Stop (n - 2) ∷ []) front.1

  row_all : (i : ℕ) → i + 2 < n → All P (row_places width i)
  row_all i within = at_flat P (row_places width) 0 (n - 2) back.0 i (omega arith) (omega arith)

  later : (i : ℕ) → i + 2 < n → All P (Keep i 0 ∷ (pairs width i ++ Stop i ∷ []))
  later i within = All-tail P (One i) (Keep i 0 ∷ (pairs width i ++ Stop i ∷ [])) (row_all i within)

  rest : (i : ℕ) → i + 2 < n → All P (pairs width i) × All P (Stop i ∷ [])
  rest i within = All-append_both P (pairs width i) (Stop i ∷ []) (All-tail P (Keep i 0) (pairs width i ++ Stop i ∷ []) (later i within))

  pair_at : (i j : ℕ) → i + 2 < n → j + 1 < width → All P (pair_places i j)
  pair_at i j within inside = at_flat P (pair_places i) 0 (width - 1) (rest i within).0 j (omega arith) (omega arith)

  pub at_place : (p : Place) → IsPlace n width p → P p
  at_place Start h = All-head P Start (belows width ++ (rows n width ++ Stop (n - 2) ∷ [])) all
  at_place (Below j) h = at_range P Below 1 (width - 1) front.0 j h.0 (omega (arith, h.0, h.1))
  at_place (One i) h = All-head P (One i) (Keep i 0 ∷ (pairs width i ++ Stop i ∷ [])) (row_all i h)
  at_place (Keep i zero) h = All-head P (Keep i 0) (pairs width i ++ Stop i ∷ []) (later i h.0)
  at_place (Keep i (suc j)) h = All-head P (Keep i (suc j)) [] (All-tail P (More i j) (Keep i (suc j) ∷ []) (subst (λ (k : ℕ). All P (More i j ∷ Keep i k ∷ [])) (let e : j + 1 ≡ suc j = omega arith in e) (pair_at i j h.0 (omega (arith, h.1)))))
  at_place (More i j) h = All-head P (More i j) (Keep i (j + 1) ∷ []) (pair_at i j h.0 h.1)
  at_place (Stop i) h =
      elim (cases_lt (i + 2) n) as (λ _. P (Stop i)) [
        | inl inside ↦ All-head P (Stop i) [] (rest i inside).1
        | inr end ↦ subst (λ (k : ℕ). P (Stop k)) (let e : n - 2 ≡ i = omega (arith, h, end) in e) (All-head P (Stop (n - 2)) [] back.1)
      ]
