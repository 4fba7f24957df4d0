-- Rows that go by two numbers: a row for each number of the left, with those of the right that a test lets pass.
use Rattle.std.proofs.Common.{◌≡◌, ◌≤◌, ◌+◌, ℕ, Bool, true, List, [], ◌∷◌, length, refl, sym, ◌∙◌, arith}
use Rattle.std.specs.Prelude.{Contains, map, sum_by, count_by}
use Rattle.std.specs.List.{filter, flat_map, range_with_len}
use Rattle.std.proofs.lemmas.List.{length-map}
use Rattle.std.proofs.lemmas.List.Concat.{length-flat_map}
use Rattle.std.proofs.lemmas.List.Sums.{length-filter, sum_by-cons}
use Rattle.pb_base.proofs.Members.{Contains-map}
use Rattle.pb_family.proofs.Filters.{Contains-filter, Contains-filter_cases}
use Rattle.pb_tree.specs.Pairs.{Pair, pair_of}
use Rattle.pb_tree.proofs.Lists.{Contains-map_cases, Contains-flat_map, Contains-flat_map_cases, Contains-range, Contains-range_cases}
use Rattle.pb_tree.proofs.PairLists.{map_same, map-map, rows_same}

-- of numbers up to a and up to b
abbrev pub rows_of : {X : Type 0} → (ℕ → ℕ → X) → (ℕ → ℕ → Bool) → ℕ → ℕ → List X
rows_of f p a b = flat_map (λ i. map (f i) (filter (p i) (range_with_len 0 (b + 1)))) (range_with_len 0 (a + 1))

pub row_listed : {X : Type 0} (f : ℕ → ℕ → X) (p : ℕ → ℕ → Bool) (a b i j : ℕ) → i ≤ a → j ≤ b → p i j ≡ true → Contains (rows_of f p a b) (f i j)
row_listed f p a b i j left right passes =
    let js = range_with_len 0 (b + 1) in
    Contains-flat_map (λ i. map (f i) (filter (p i) js)) (range_with_len 0 (a + 1)) i (f i j) (Contains-range 0 (a + 1) i (omega arith) (omega arith))
    (Contains-map (f i) (filter (p i) js) j (Contains-filter (p i) js j (Contains-range 0 (b + 1) j (omega arith) (omega arith)) passes))

pub row_cases : {X : Type 0} (f : ℕ → ℕ → X) (p : ℕ → ℕ → Bool) (a b : ℕ) (x : X) → Contains (rows_of f p a b) x → (i : ℕ) × (j : ℕ) × (i ≤ a) × (j ≤ b) × (p i j ≡ true) × (f i j ≡ x)
row_cases f p a b x listed =
    let js = range_with_len 0 (b + 1) in
    let row = Contains-flat_map_cases (λ i. map (f i) (filter (p i) js)) (range_with_len 0 (a + 1)) x listed in
    let left = Contains-range_cases 0 (a + 1) row.0 row.1 in
    let found = Contains-map_cases (f row.0) (filter (p row.0) js) x row.2 in
    let kept = Contains-filter_cases (p row.0) js found.0 found.1 in
    let right = Contains-range_cases 0 (b + 1) found.0 kept.0 in
    (row.0, found.0, omega (arith, left.1), omega (arith, right.1), kept.1, found.2)

pub rows_counted : {X : Type 0} (f : ℕ → ℕ → X) (p : ℕ → ℕ → Bool) (a b : ℕ) → length (rows_of f p a b) ≡ sum_by (λ i. count_by (p i) (range_with_len 0 (b + 1))) (range_with_len 0 (a + 1))
rows_counted f p a b = length-flat_map (λ i. map (f i) (filter (p i) (range_with_len 0 (b + 1)))) (range_with_len 0 (a + 1)) ∙ each (range_with_len 0 (a + 1))
  where
    each : (is : List ℕ) → sum_by (λ i. length (map (f i) (filter (p i) (range_with_len 0 (b + 1))))) is ≡ sum_by (λ i. count_by (p i) (range_with_len 0 (b + 1))) is
    each [] = refl
    each (i ∷ is) =
        let js = range_with_len 0 (b + 1) in
        omega (
          arith,
          sum_by-cons (λ (i : ℕ). length (map (f i) (filter (p i) js))) i is,
          sum_by-cons (λ (i : ℕ). count_by (p i) js) i is,
          length-map (filter (p i) js) (f i),
          length-filter (p i) js,
          each is,
        )

-- they are rows of pairs, mapped
pub rows_by_pairs : {X : Type 0} (f : ℕ → ℕ → X) (h : Pair → X) (js : ℕ → List ℕ) (is : List ℕ) → ((i j : ℕ) → Contains (js i) j → f i j ≡ h (pair_of i j)) → flat_map (λ i. map (f i) (js i)) is ≡ map h (flat_map (λ i. map (pair_of i) (js i)) is)
rows_by_pairs f h js is same = rows_same h (λ i. map (pair_of i) (js i)) (λ i. map (f i) (js i)) is (λ i here. map_same (f i) (λ j. h (pair_of i j)) (js i) (same i) ∙ sym (map-map h (pair_of i) (js i)))
