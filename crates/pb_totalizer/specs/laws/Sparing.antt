-- Few clauses of a node of a totalizer leave a part out.
use Rattle.std.proofs.Common.{◌≡◌, ◌≤◌, ◌+◌, ℕ, Bool, true, false, cond, List, ◌∷◌, ◌++◌, length, min, ap, sym, ◌∙◌, subst, suc, arith}
use Rattle.std.specs.Prelude.{Contains, map, count_by}
use Rattle.std.specs.List.{filter, flat_map, range_with_len}
use Rattle.std.proofs.lemmas.List.{length-map}
use Rattle.std.proofs.lemmas.List.Concat.{flat_map-cons}
use Rattle.std.proofs.lemmas.List.FromFn.{length-range_with_len}
use Rattle.std.proofs.lemmas.List.Sums.{count_by-le-length, length-filter}
use Rattle.pb_family.proofs.Filters.{Contains-filter_cases}
use Rattle.pb_tree.specs.Pairs.{Pair, pair_of}
use Rattle.pb_tree.specs.Scheme.{values}
use Rattle.pb_tree.proofs.Lists.{Contains-range_cases}
use Rattle.pb_tree.proofs.PairCounts.{is_none, is_some, count-cons, count-append, count-map, count_none, count_rows}
use Rattle.pb_tree.proofs.TreeShort.{IsSparing}
use Rattle.pb_totalizer.specs.Totalizer.{is_within, partners, totalizer}
use Rattle.pb_totalizer.specs.OutputSteps.{totalizer_pairs}
use Rattle.pb_totalizer.specs.laws.TotalizerLaws.{values_length}

-- those from 1 on
later : ℕ → ℕ → ℕ → List ℕ
later cap b i = filter (is_within cap i) (range_with_len 1 b)

later_some : (cap b i j : ℕ) → Contains (later cap b i) j → 1 ≤ j
unfolding later
later_some cap b i j h = (Contains-range_cases 1 b j (Contains-filter_cases (is_within cap i) (range_with_len 1 b) j h).0).0

later_few : (cap b i : ℕ) → length (later cap b i) ≤ b
unfolding later
later_few cap b i = omega (arith, length-filter (is_within cap i) (range_with_len 1 b), count_by-le-length (is_within cap i) (range_with_len 1 b), length-range_with_len 1 b)

partners_split : (cap b i : ℕ) → partners cap b i ≡ cond {A = List ℕ} (is_within cap i 0) (0 ∷ later cap b i) (later cap b i)
unfolding later
partners_split cap b i = ap (λ (n : ℕ). filter (is_within cap i) (range_with_len 0 n)) (let e : b + 1 ≡ suc b = omega arith in e)

no_partner : (cap b : ℕ) → partners cap b 0 ≡ later cap b 0
no_partner cap b = partners_split cap b 0

abbrev row : ℕ → ℕ → ℕ → List Pair
row cap b i = map (pair_of i) (partners cap b i)

rows_split : (cap a b : ℕ) → flat_map (row cap b) (range_with_len 0 (a + 1)) ≡ row cap b 0 ++ flat_map (row cap b) (range_with_len 1 a)
rows_split cap a b = ap (λ (n : ℕ). flat_map (row cap b) (range_with_len 0 n)) (let e : a + 1 ≡ suc a = omega arith in e) ∙ flat_map-cons (row cap b) 0 (range_with_len 1 a)

no_left : (cap a b : ℕ) → count_by (λ p. is_none p.left) (flat_map (row cap b) (range_with_len 0 (a + 1))) ≤ b
no_left cap a b =
    let p = λ (q : Pair). is_none q.left in
    let all = count-append p (row cap b 0) (flat_map (row cap b) (range_with_len 1 a)) in
    let same = ap (count_by p) (rows_split cap a b) in
    let first = count_by-le-length p (row cap b 0) in
    let size : length (row cap b 0) ≡ length (later cap b 0) = length-map (partners cap b 0) (pair_of 0) ∙ ap length (no_partner cap b) in
    let rest = count_rows p (row cap b) 0 (range_with_len 1 a) (λ i h.
    let low = (Contains-range_cases 1 a i h).0 in
    let none : count_by p (row cap b i) ≡ 0 = count-map p (pair_of i) (partners cap b i) ∙ count_none (λ j. is_none i) (partners cap b i) (λ j k. is_some i low) in
    omega arith) in
    omega (arith, all, same, first, size, later_few cap b 0, rest)

right_later : (cap b i : ℕ) → count_by is_none (later cap b i) ≡ 0
right_later cap b i = count_none is_none (later cap b i) (λ j h. is_some j (later_some cap b i j h))

right_row : (cap b i : ℕ) → count_by is_none (partners cap b i) ≤ 1
right_row cap b i = subst (λ (js : List ℕ). count_by is_none js ≤ 1) (sym (partners_split cap b i)) (by_test (is_within cap i 0))
  where
    by_test : (t : Bool) → count_by is_none (cond {A = List ℕ} t (0 ∷ later cap b i) (later cap b i)) ≤ 1
    by_test true = omega (arith, count-cons is_none 0 (later cap b i), right_later cap b i)
    by_test false = omega (arith, right_later cap b i)

no_right : (cap a b : ℕ) → count_by (λ p. is_none p.right) (flat_map (row cap b) (range_with_len 0 (a + 1))) ≤ a
no_right cap a b =
    let p = λ (q : Pair). is_none q.right in
    let all = count-append p (row cap b 0) (flat_map (row cap b) (range_with_len 1 a)) in
    let same = ap (count_by p) (rows_split cap a b) in
    let first : count_by p (row cap b 0) ≡ 0 = count-map p (pair_of 0) (partners cap b 0) ∙ ap (count_by is_none) (no_partner cap b) ∙ right_later cap b 0 in
    let rest = count_rows p (row cap b) 1 (range_with_len 1 a) (λ i h.
    let one : count_by p (row cap b i) ≡ count_by is_none (partners cap b i) = count-map p (pair_of i) (partners cap b i) in
    omega (arith, one, right_row cap b i)) in
    omega (arith, all, same, first, rest, length-range_with_len 1 a)

pub totalizer_sparing : (bound : ℕ) → IsSparing (totalizer bound) (totalizer_pairs (bound + 1))
totalizer_sparing bound =
    let s = totalizer bound in
    record {
      no_left = λ l r one two. no_left (bound + 1) (length (values s l)) (length (values s r));
      no_right = λ l r one two. no_right (bound + 1) (length (values s l)) (length (values s r));
      left_grows = λ l r. omega (arith, values_length bound l, length-range_with_len 1 (min (length (values s l) + length (values s r)) (bound + 1)));
      right_grows = λ l r. omega (arith, values_length bound r, length-range_with_len 1 (min (length (values s l) + length (values s r)) (bound + 1)));
    }
