-- How many clauses a part of a totalizer has, whichever polarity they lead.
use Rattle.std.proofs.Common.{◌≡◌, ◌≤◌, ◌<◌, ◌+◌, ◌*◌, ◌^◌, ℕ, List, length, min, sym, ap, ◌∙◌, arith}
use Rattle.std.proofs.lemmas.List.{length-map}
use Rattle.pb_base.specs.declared.literal.Term.{Term}
use Rattle.pb_norm.specs.Constraints.{weights}
use Rattle.pb_tree.specs.Halves.{Halves}
use Rattle.pb_tree.specs.Scheme.{fresh_of, own_count_of, clause_count_of}
use Rattle.pb_tree.specs.Tree.{Tree, node, tree_of}
use Rattle.pb_tree.proofs.AlongJustifications.{clause_in}
use Rattle.pb_tree.proofs.Extending.{along_counted}
use Rattle.pb_totalizer.specs.Exact.{exact_along, exact_own, limit_count, limit_count_of, limits_along, outputs_of}
use Rattle.pb_totalizer.specs.Totalizer.{node_clause_count, totalizer}
use Rattle.pb_totalizer.specs.declared.polarity.Polarity.{Polarity}
use Rattle.pb_totalizer.specs.declared.polarity.Polarity.TheVariants.{Up, Both}
use Rattle.pb_totalizer.specs.inner.ExactSources.{nodes_justifications}
use Rattle.pb_totalizer.specs.inner.Wholes.{IsWhole}
use Rattle.pb_totalizer.specs.laws.Counting.{few_along, own_in_grid, small}
use Rattle.pb_totalizer.specs.laws.ExactReifications.{own_counted}
use Rattle.pb_totalizer.specs.laws.ExactJustifications.{exact_along_clauses}
use Rattle.pb_totalizer.specs.laws.LimitCounts.{limits_in_grid, split_count}
use Rattle.pb_totalizer.specs.laws.Shares.{few_shared}
use Rattle.pb_totalizer.specs.laws.Polarity.{clause_count_by, own_count, own_count_by}
use Rattle.pb_totalizer.proofs.Halved.{Halved}

-- ---- by the halves

own_is : (polarity : Polarity) (bound : ℕ) (l r : Tree) (count a b : ℕ) → count ≡ outputs_of bound (node l r) → a ≡ outputs_of bound l → b ≡ outputs_of bound r → own_count polarity (bound + 1) count a b ≡ own_count_by polarity bound l r
own_is Up bound l r count a b ec ea eb = λ i. node_clause_count (bound + 1) (ea i) (eb i)
own_is Both bound l r count a b ec ea eb = λ i. node_clause_count (bound + 1) (ea i) (eb i) + limit_count (ec i) (ea i) (eb i)

-- those of the halves, and the node's own
pub parts_counted : (polarity : Polarity) {bound : ℕ} {ts lefts rights : List Term} → Halved bound ts lefts rights → {count a b : ℕ}
    → count ≡ min (a + b) (bound + 1) → a ≡ outputs_of bound (tree_of (weights lefts)) → b ≡ outputs_of bound (tree_of (weights rights))
    → clause_count_by polarity bound (tree_of (weights ts)) ≡ clause_count_by polarity bound (tree_of (weights lefts)) + clause_count_by polarity bound (tree_of (weights rights)) + own_count polarity (bound + 1) count a b
parts_counted polarity {bound} {ts} {lefts} {rights} half {count} {a} {b} is ea eb =
    let l = tree_of (weights lefts) in
    let r = tree_of (weights rights) in
    let own = own_is polarity bound l r count a b (omega (arith, half.outputs, is, ea, eb, ap (outputs_of bound) half.tree)) ea eb in
    ap (clause_count_by polarity bound) half.tree ∙ ap (λ (n : ℕ). clause_count_by polarity bound l + clause_count_by polarity bound r + n) (sym own)

-- ---- they fit

pub few_clauses : (polarity : Polarity) (bound : ℕ) (ts : List Term) → 1 ≤ length ts → length ts < 2 ^ 31 → clause_count_by polarity bound (tree_of (weights ts)) + 2 < 2 ^ 63
few_clauses Up bound ts some few =
    let sums : clause_count_by Up bound (tree_of (weights ts)) + 1 < 2 ^ 62 = few_along bound (own_count_of (totalizer bound)) (own_in_grid bound) ts some few in
    omega (arith, sums)
few_clauses Both bound ts some few =
    let t = tree_of (weights ts) in
    let whole : clause_count_by Both bound t ≡ clause_count_of (totalizer bound) t + limits_along bound t = split_count bound t in
    let sums : clause_count_of (totalizer bound) t + 1 < 2 ^ 62 = few_along bound (own_count_of (totalizer bound)) (own_in_grid bound) ts some few in
    let limits : limits_along bound t + 1 < 2 ^ 62 = few_along bound (limit_count_of bound) (limits_in_grid bound) ts some few in
    omega (arith, whole, sums, limits)

-- of the halves, with their fresh variables
pub halves_fit : (polarity : Polarity) (bound : ℕ) {ts lefts rights : List Term} → Halves ts lefts rights → length ts < 2 ^ 31
    → (fresh_of (totalizer bound) (tree_of (weights lefts)) < 2 ^ 62) × (fresh_of (totalizer bound) (tree_of (weights rights)) < 2 ^ 62) × (clause_count_by polarity bound (tree_of (weights lefts)) + clause_count_by polarity bound (tree_of (weights rights)) < 2 ^ 64)
halves_fit polarity bound {lefts = lefts} {rights} h few =
    let whole = h.whole in
    let left_some = h.front_some in
    let right_some = h.back_some in
    let left : length lefts < 2 ^ 31 = omega arith in
    let right : length rights < 2 ^ 31 = omega arith in
    ((small bound lefts left_some left).fresh, (small bound rights right_some right).fresh, omega (arith, few_clauses polarity bound lefts left_some left, few_clauses polarity bound rights right_some right))

-- of an exact sum: as many justifications as the ids have room for
pub few_justifications : (bound : ℕ) (ts : List Term) (id : ℕ) {first : ℕ} → IsWhole ts bound first → length (nodes_justifications bound ts id) ≤ 3 * 2 ^ 59
few_justifications bound ts id whole =
    let few : fresh_of (totalizer bound) (tree_of (weights ts)) ≤ 2 ^ 31 = omega (arith, whole.fits) in
    let s = totalizer bound in
    let t = tree_of (weights ts) in
    let rs = nodes_justifications bound ts id in
    let count : length rs ≡ length (exact_along bound t 0) = sym (length-map rs clause_in) ∙ ap length (exact_along_clauses bound t 0 id) in
    omega (
      arith,
      count,
      along_counted s (exact_own bound) _ (own_counted bound) t 0,
      split_count bound t,
      few_shared bound (own_count_of s) (own_in_grid bound) t whole.from few,
      few_shared bound (limit_count_of bound) (limits_in_grid bound) t whole.from few,
    )
