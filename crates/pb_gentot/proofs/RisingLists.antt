-- What is known of lists of numbers each of which is below all later ones.
use Rattle.std.proofs.Common.{◌≡◌, ◌<◌, ◌≤◌, ◌+◌, ◌==◌, min, ℕ, Bool, List, [], ◌∷◌, length, get_or, refl, sym, ap, ◌∙◌, subst, arith, inl, inr, zero, suc}
use Rattle.std.specs.Prelude.{Contains, All, map}
use Rattle.std.specs.List.{filter, flat_map, range_with_len, list_any, AllPairs, dedup}
use Rattle.std.specs.List.Sorted.{IsSorted}
use Rattle.std.specs.Ordering.{nat_cmp}
use Rattle.std.proofs.Math.Dec.{eqb}
use Rattle.std.proofs.lemmas.Bool.{cases_Bool, cases_lt, cond-true, cond-false}
use Rattle.std.proofs.lemmas.List.{get_or_default}
use Rattle.std.proofs.lemmas.List.Elements.{Contains-get_or, All-contains, Contains-append_cases}
use Rattle.std.proofs.lemmas.List.Kept.{AllPairs-from_increasing}
use Rattle.std.proofs.lemmas.Map.Keys.{IsStrictlyIncreasing-dedup}
use Rattle.pb_base.proofs.Members.{Contains-nil, Contains-here, Contains-there, Contains-cons_cases}
use Rattle.pb_family.proofs.Filters.{Contains-filter_cases}
use Rattle.pb_tree.proofs.Lists.{Contains-map_cases, Contains-flat_map_cases, Contains-range_cases}
use Rattle.pb_tree.proofs.Places.{place-here, place-there}
use Rattle.pb_tree.specs.Places.{place_of}
use Rattle.pb_gentot.specs.Rising.{Rising}
use Rattle.pb_gentot.specs.Generalized.{ascending, sums}

rising_range : (p : ℕ → Bool) (a n : ℕ) → Rising (filter p (range_with_len a n))
rising_range p a zero = tt
rising_range p a (suc n) =
    let rest = filter p (range_with_len (a + 1) n) in
    elim (cases_Bool (p a)) as (λ _. Rising (filter p (range_with_len a (suc n)))) [
      | inl here ↦
          let all : Rising (a ∷ rest) = ((λ m h. (let low = Contains-range_cases (a + 1) n m (Contains-filter_cases p (range_with_len (a + 1) n) m h).0 in omega arith)), rising_range p (a + 1) n) in
          subst Rising (sym (cond-true (p a) (a ∷ rest) rest here)) all
      | inr fails ↦ subst Rising (sym (cond-false (p a) (a ∷ rest) rest fails)) (rising_range p (a + 1) n)
    ]

pub rising_ascending : (cap : ℕ) (xs : List ℕ) → Rising (ascending cap xs)
rising_ascending cap xs = rising_range (λ n. list_any (λ x. x == n) xs) 0 (cap + 1)

rising_pairs : (xs : List ℕ) → AllPairs (λ x y. x < y) xs → Rising xs
rising_pairs [] pairs = tt
rising_pairs (x ∷ xs) pairs = (
  (λ n h. (let below : x < get_or xs h.0 n = pairs 0 (suc h.0) n (omega arith) (omega (arith, h.1)) in let e = h.2 in omega arith)),
  rising_pairs xs (λ i j d less within. pairs (suc i) (suc j) d (omega arith) (omega arith)),
)

-- two rising lists with the same members are one
pub rising_same : (xs ys : List ℕ) → Rising xs → Rising ys → ((n : ℕ) → Contains xs n → Contains ys n) → ((n : ℕ) → Contains ys n → Contains xs n) → xs ≡ ys
rising_same [] [] rx ry to from = refl
rising_same [] (y ∷ ys) rx ry to from = absurd (Contains-nil y (from y (Contains-here y ys)))
rising_same (x ∷ xs) [] rx ry to from = absurd (Contains-nil x (to x (Contains-here x xs)))
rising_same (x ∷ xs) (y ∷ ys) rx ry to from =
    let heads : x ≡ y =
    elim (Contains-cons_cases y ys x (to x (Contains-here x xs))) as (λ _. x ≡ y) [
      | inl same ↦ sym same
      | inr later ↦ elim (Contains-cons_cases x xs y (from y (Contains-here y ys))) as (λ _. x ≡ y) [
        | inl same ↦ same
        | inr also ↦ absurd (let one = ry.0 x later in let two = rx.0 y also in omega arith)
      ]
    ] in
    let tail_to : ((n : ℕ) → Contains xs n → Contains ys n) = λ n h.
    elim (Contains-cons_cases y ys n (to n (Contains-there x xs n h))) as (λ _. Contains ys n) [
      | inl same ↦ absurd (let above = rx.0 n h in omega arith)
      | inr rest ↦ rest
    ] in
    let tail_from : ((n : ℕ) → Contains ys n → Contains xs n) = λ n h.
    elim (Contains-cons_cases x xs n (from n (Contains-there y ys n h))) as (λ _. Contains xs n) [
      | inl same ↦ absurd (let above = ry.0 n h in omega arith)
      | inr rest ↦ rest
    ] in
    ap (λ (k : ℕ). k ∷ xs) heads ∙ ap (λ (zs : List ℕ). y ∷ zs) (rising_same xs ys rx.1 ry.1 tail_to tail_from)

-- what a sort leaves, each once
pub rising_deduped : (ys : List ℕ) → IsSorted nat_cmp ys → Rising (dedup eqb ys)
rising_deduped ys sorted = rising_pairs (dedup eqb ys) (AllPairs-from_increasing (dedup eqb ys) (IsStrictlyIncreasing-dedup ys sorted))

-- where the element at a place stands
pub place_at : (us : List ℕ) (i d : ℕ) → Rising us → i < length us → place_of (get_or us i d) us ≡ i
place_at [] i d rising within = absurd (omega arith)
place_at (u ∷ us) zero d rising within = place-here u u us refl
place_at (u ∷ us) (suc i) d rising within =
    let above = rising.0 (get_or us i d) (Contains-get_or us i d (omega arith)) in
    place-there (get_or us i d) u us (λ same. omega arith) ∙ ap (λ (k : ℕ). 1 + k) (place_at us i d rising.1 (omega arith)) ∙ (let e : 1 + i ≡ suc i = omega arith in e)

pub rising_monotone : (us : List ℕ) → Rising us → (i j : ℕ) → i ≤ j → j < length us → get_or us i 0 ≤ get_or us j 0
rising_monotone [] rising i j le within = absurd (omega arith)
rising_monotone (u ∷ us) rising zero zero le within = omega arith
rising_monotone (u ∷ us) rising zero (suc j) le within =
    let above = rising.0 (get_or us j 0) (Contains-get_or us j 0 (omega arith)) in
    omega arith
rising_monotone (u ∷ us) rising (suc i) zero le within = absurd (omega arith)
rising_monotone (u ∷ us) rising (suc i) (suc j) le within = rising_monotone us rising.1 i j (omega arith) (omega arith)

pub found_is : (us : List ℕ) (x i : ℕ) → Rising us → i < length us → get_or us i 0 ≡ x → i ≡ place_of x us
found_is us x i rising within is = sym (place_at us i 0 rising within) ∙ ap (λ (k : ℕ). place_of k us) is

pub never_missing : (us : List ℕ) (x i : ℕ) → Contains us x → ((k : ℕ) → k < i → get_or us k 0 < x) → ((k : ℕ) → i ≤ k → k < length us → x < get_or us k 0) → ⊥
never_missing us x i h low high =
    let k = h.0 in
    let is : get_or us k 0 ≡ x = get_or_default us k 0 x h.1 ∙ h.2 in
    elim (cases_lt k i) as (λ _. ⊥) [
      | inl below ↦ let less = low k below in omega arith
      | inr above ↦ let more = high k above h.1 in omega arith
    ]

-- the sums are cut
pub sums_within : (cap : ℕ) (us vs : List ℕ) → All (λ u. u ≤ cap) us → All (λ v. v ≤ cap) vs → (n : ℕ) → Contains (sums cap us vs) n → n ≤ cap
sums_within cap us vs left right n h =
    let f = λ (u : ℕ). u ∷ map (λ v. min (u + v) cap) vs in
    elim (Contains-append_cases (flat_map f us) vs n h) as (λ _. n ≤ cap) [
      | inr among ↦ All-contains (λ v. v ≤ cap) vs n right among
      | inl inside ↦
          let row = Contains-flat_map_cases f us n inside in
          elim (Contains-cons_cases row.0 (map (λ v. min (row.0 + v) cap) vs) n row.2) as (λ _. n ≤ cap) [
            | inl same ↦ let le = All-contains (λ u. u ≤ cap) us row.0 left row.1 in omega arith
            | inr rest ↦ let found = Contains-map_cases (λ v. min (row.0 + v) cap) vs n rest in omega (arith, found.2)
          ]
    ]
