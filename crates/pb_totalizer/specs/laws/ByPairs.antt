-- The clauses of totalizers go by pairs of numbers.
use Rattle.std.proofs.Common.{◌≡◌, ◌≤◌, ◌+◌, ◌-◌, ℕ, List, [], ◌∷◌, ◌++◌, length, min, ap, arith, inl, inr}
use Rattle.std.specs.Prelude.{Contains}
use Rattle.std.specs.List.{range_with_len}
use Rattle.std.proofs.lemmas.Bool.{cases_eq}
use Rattle.std.proofs.lemmas.List.FromFn.{length-range_with_len}
use Rattle.pb_base.specs.declared.literal.Lit.{Lit}
use Rattle.pb_family.proofs.Filters.{Contains-filter_cases}
use Rattle.pb_tree.specs.Pairs.{Pair, pair_of, unless_none, pair_clause}
use Rattle.pb_tree.specs.Scheme.{values}
use Rattle.pb_tree.specs.Tree.{Tree, node}
use Rattle.pb_tree.proofs.Lists.{Contains-range, Contains-range_cases}
use Rattle.pb_tree.proofs.PairJustifications.{IsByPairs}
use Rattle.pb_tree.proofs.TreeParts.{IsPart, AreFromParts}
use Rattle.pb_totalizer.specs.Totalizer.{sum_clause, is_within, partners, totalizer}
use Rattle.pb_totalizer.specs.OutputSteps.{totalizer_pairs}
use Rattle.pb_totalizer.specs.laws.PairRows.{row_cases, rows_by_pairs}
use Rattle.pb_totalizer.specs.laws.TotalizerLaws.{value_bounds, value_from, within_bounds}

pub partner_bounds : (cap b i j : ℕ) → Contains (partners cap b i) j → (1 ≤ i + j) × (i + j ≤ cap) × (j ≤ b)
partner_bounds cap b i j h =
    let kept = Contains-filter_cases (is_within cap i) (range_with_len 0 (b + 1)) j h in
    let range = Contains-range_cases 0 (b + 1) j kept.0 in
    let bounds = within_bounds cap i j kept.1 in
    (bounds.0, bounds.1, omega arith)

sum_by_pair : (cap : ℕ) (f g h : ℕ → Lit) (i j : ℕ) → i + j ≤ cap → sum_clause f g h i j ≡ pair_clause cap f g h (pair_of i j)
sum_by_pair cap f g h i j le =
    ap (λ (n : ℕ). unless_none f i ++ (unless_none g j ++ h n ∷ [])) (let e : i + j ≡ min (i + j) cap = omega arith in e)

pub pair_bounds : (cap : ℕ) (us vs : List ℕ) (p : Pair) → Contains (totalizer_pairs cap us vs) p → (p.left ≤ length us) × (p.right ≤ length vs) × (1 ≤ p.left + p.right) × (p.left + p.right ≤ cap)
pair_bounds cap us vs p h =
    let found = row_cases pair_of (is_within cap) (length us) (length vs) p h in
    let bounds = within_bounds cap found.0 found.1 found.4 in
    let left : found.0 ≡ p.left = ap (λ (q : Pair). q.left) found.5 in
    let right : found.1 ≡ p.right = ap (λ (q : Pair). q.right) found.5 in
    (omega (arith, left, found.2), omega (arith, right, found.3), omega (arith, left, right, bounds.0), omega (arith, left, right, bounds.1))

-- a number up to the length is a value, or 0
number_part : (bound : ℕ) (t : Tree) (u : ℕ) → u ≤ length (values (totalizer bound) t) → IsPart (values (totalizer bound) t) u
number_part bound t u le =
    elim (cases_eq u 0) as (λ _. IsPart (values (totalizer bound) t) u) [
      | inl none ↦ inl none
      | inr some ↦ inr (value_from bound t u (omega arith) le)
    ]

totalizer_from : (bound : ℕ) → AreFromParts (totalizer bound)
totalizer_from bound l r w h =
    let s = totalizer bound in
    let a = length (values s l) in
    let b = length (values s r) in
    let bounds = value_bounds bound (node l r) w h in
    let count = length-range_with_len 1 (min (a + b) (bound + 1)) in
    let u = min w a in
    (u, w - u, number_part bound l u (omega arith), number_part bound r (w - u) (omega arith), omega arith)

pub totalizer_by_pairs : (bound : ℕ) → IsByPairs (totalizer bound) (totalizer_pairs (bound + 1))
totalizer_by_pairs bound =
    let s = totalizer bound in
    record {
      merged = λ l r one two f g h.
          let b = length (values s r) in
          rows_by_pairs (sum_clause f g h) (pair_clause (bound + 1) f g h) (partners (bound + 1) b) (range_with_len 0 (length (values s l) + 1)) (λ i j m. sum_by_pair (bound + 1) f g h i j (partner_bounds (bound + 1) b i j m).1);
      lefts = λ l r p h. number_part bound l p.left (pair_bounds (bound + 1) (values s l) (values s r) p h).0;
      rights = λ l r p h. number_part bound r p.right (pair_bounds (bound + 1) (values s l) (values s r) p h).1;
      owns = λ l r p h.
          let bounds = pair_bounds (bound + 1) (values s l) (values s r) p h in
          let a = length (values s l) in
          let b = length (values s r) in
          let w = min (p.left + p.right) (bound + 1) in
          Contains-range 1 (min (a + b) (bound + 1)) w (omega (arith, bounds.2)) (omega (arith, bounds.0, bounds.1, bounds.3));
      from = totalizer_from bound;
      low = λ t positive u h. (value_bounds bound t u h).0;
    }
