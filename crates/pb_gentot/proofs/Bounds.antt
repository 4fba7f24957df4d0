-- Bounds on the numbers of a generalized totalizer.
use Rattle.std.proofs.Common.{◌≡◌, ◌<◌, ◌≤◌, ◌+◌, ◌-◌, ◌*◌, ◌/◌, ◌^◌, ℕ, List, [], ◌∷◌, length, take, drop, refl, ap, subst, arith, zero, suc, length-drop}
use Rattle.std.specs.Prelude.{Option, Some, None}
use Rattle.std.proofs.lemmas.List.{length-take, length-map}
use Rattle.std.proofs.lemmas.Nat.{mul-le}
use Rattle.pb_base.specs.declared.literal.Term.{Term}
use Rattle.pb_norm.specs.Constraints.{Weighted, weighted, weights, weight}
use Rattle.pb_tree.specs.Tree.{Tree, node, split_within, tree_of}
use Rattle.pb_tree.specs.Scheme.{values, fresh_of, clause_count_of}
use Rattle.pb_tree.proofs.Splitting.{halves}
use Rattle.pb_tree.proofs.Numbers.{bounds_step, sums_fit}
use Rattle.pb_tree.proofs.TreeCounts.{justifications_counted}
use Rattle.pb_gentot.specs.Generalized.{generalized}
use Rattle.pb_gentot.specs.GeneralizedSteps.{generalized_pairs}
use Rattle.pb_gentot.specs.laws.ByPairs.{generalized_by_pairs}
use Rattle.pb_gentot.specs.laws.GeneralizedLaws.{Always, generalized_lawful}
use Rattle.pb_gentot.specs.laws.GeneralizedShort.{generalized_sparing}
use Rattle.pb_gentot.specs.declared.measure.Part.{Part}
use Rattle.pb_gentot.specs.inner.Measured.{IsMeasured, IsPartMeasured, IsNodeMeasured, clauses_with}
use Rattle.pb_gentot.specs.inner.Sources.{part_justifications}
use Rattle.pb_gentot.proofs.Parts.{AreLeavesPositive, numbers_of}

pub record Bounds (bound : ℕ) (t : Tree) (n : ℕ) : Type 0 where
  pub count : length (values (generalized bound) t) ≤ fresh_of (generalized bound) t + n
  pub clauses : clause_count_of (generalized bound) t + 1 ≤ (fresh_of (generalized bound) t + n) * (fresh_of (generalized bound) t + n)
  pub some : 1 ≤ length (values (generalized bound) t)
  pub leaves : n ≤ fresh_of (generalized bound) t + 1

grid : (a b m n : ℕ) → a ≤ m → b ≤ n → a * b + a + b + 1 ≤ (m + 1) * (n + 1)
grid a b m n h k = let e : a * b + a + b + 1 ≡ (a + 1) * (b + 1) = omega arith in omega (arith, mul-le (a + 1) (b + 1) (m + 1) (n + 1) (omega arith) (omega arith))

bounds_within : (bound more : ℕ) (ts : List Weighted) → length ts ≤ more → 1 ≤ length ts → Bounds bound (split_within more ts) (length ts)
unfolding split_within
bounds_within bound zero ts fits some = absurd (omega arith)
bounds_within bound (suc more) [] fits some = absurd (omega arith)
bounds_within bound (suc more) (t ∷ []) fits some = record { count = omega arith; clauses = omega arith; some = omega arith; leaves = omega arith }
bounds_within bound (suc more) (t ∷ u ∷ us) fits some =
    let ts = t ∷ u ∷ us in
    let n = length ts / 2 in
    let front = take n ts in
    let back = drop n ts in
    let short = halves t u us more fits in
    let fronts = length-take n ts in
    let backs = length-drop n ts in
    let s = generalized bound in
    let l = split_within more front in
    let r = split_within more back in
    let left = bounds_within bound more front short.0 (omega arith) in
    let right = bounds_within bound more back short.1 (omega arith) in
    let i = fresh_of s l + length front in
    let j = fresh_of s r + length back in
    let a = length (values s l) in
    let b = length (values s r) in
    let step = bounds_step i j 0 0 (clause_count_of s l) (clause_count_of s r) (a * b + a + b) 0 (omega arith) (omega arith) (omega arith) (omega arith) left.clauses right.clauses (grid a b i j left.count right.count) (omega arith) in
    let whole = fresh_of s (node l r) + length ts in
    let more_than : i + j ≤ whole = omega arith in
    let square = mul-le (i + j) (i + j) whole whole more_than more_than in
    let grows = (generalized_sparing bound).left_grows l r in
    let more : 1 ≤ length (values s (node l r)) = omega (arith, grows, left.some) in
    record {
      count = omega arith;
      clauses = omega (arith, step.1, square);
      some = more;
      leaves = omega (arith, more, left.leaves, right.leaves);
    }

pub bounds : (bound : ℕ) (ts : List Term) → 1 ≤ length ts → Bounds bound (tree_of (weights ts)) (length ts)
bounds bound ts some =
    let long : length (weights ts) ≡ length ts = length-map ts weighted in
    subst (λ (n : ℕ). Bounds bound (tree_of (weights ts)) n) long (bounds_within bound (length (weights ts)) (weights ts) (omega arith) (omega arith))

-- the numbers of two halves fit, and those of a node over them
pub record Sizes (left right : Part) : Type 0 where
  pub left_small : length left.values.items < 2 ^ 32
  pub right_small : length right.values.items < 2 ^ 32
  pub all_fit : clauses_with left right < 2 ^ 64

pub sizes_of : (bound budget : ℕ) (fronts backs : List Term) (left right : Part) → 1 ≤ length fronts → 1 ≤ length backs → length fronts + length backs < 2 ^ 31 → budget < 2 ^ 24
    → IsPartMeasured bound budget (tree_of (weights fronts)) left → IsPartMeasured bound (budget - left.fresh) (tree_of (weights backs)) right → Sizes left right
sizes_of bound budget fronts backs left right front_some back_some few modest one two =
    let s = generalized bound in
    let l = tree_of (weights fronts) in
    let r = tree_of (weights backs) in
    let a = length (values s l) in
    let b = length (values s r) in
    let front = bounds bound fronts front_some in
    let back = bounds bound backs back_some in
    let m = fresh_of s l + length fronts in
    let n = fresh_of s r + length backs in
    let some : 1 ≤ m = omega (arith, front_some) in
    let also : 1 ≤ n = omega (arith, back_some) in
    let small : m + n < 2 ^ 32 = omega (arith, few, modest, one.fits, one.fresh_is, two.fits) in
    let fit = sums_fit m n (clause_count_of s l) (clause_count_of s r) (a * b + a + b) some also small front.clauses back.clauses (grid a b m n front.count back.count) in
    let lefts : length left.values.items ≡ a = ap length one.values_are in
    let rights : length right.values.items ≡ b = ap length two.values_are in
    let own : length left.values.items * length right.values.items + length left.values.items + length right.values.items ≡ a * b + a + b = λ i. lefts i * rights i + lefts i + rights i in
    record {
      left_small = omega (arith, front.count, lefts, small);
      right_small = omega (arith, back.count, rights, small);
      all_fit = omega (arith, fit.1, one.clauses_are, two.clauses_are, own);
    }

-- the numbers of a node over them
pub node_measured : (bound budget : ℕ) (ts : List Term) (l r : Tree) (left right : Part) (found : Option Part) → tree_of (weights ts) ≡ node l r → IsPartMeasured bound budget l left → IsPartMeasured bound (budget - left.fresh) r right
    → IsNodeMeasured bound (budget - left.fresh - right.fresh) left right found → IsMeasured bound budget (tree_of (weights ts)) found
node_measured bound budget ts l r left right None tree one two over =
    let number = numbers_of bound ts l r _ _ _ tree one.values_are two.values_are refl in
    omega (arith, number.fresh, one.fresh_is, two.fresh_is, one.fits, two.fits, over)
node_measured bound budget ts l r left right (Some part) tree one two own =
    let number = numbers_of bound ts l r _ _ _ tree one.values_are two.values_are own.values_are in
    let lefts = ap length one.values_are in
    let rights = ap length two.values_are in
    let size : length left.values.items * length right.values.items + length left.values.items + length right.values.items ≡ length (values (generalized bound) l) * length (values (generalized bound) r) + length (values (generalized bound) l) + length (values (generalized bound) r) = λ i. lefts i * rights i + lefts i + rights i in
    record {
      values_are = number.values_are;
      fresh_is = omega (arith, number.fresh, own.fresh_is, one.fresh_is, two.fresh_is);
      clauses_are = omega (arith, number.clauses, own.clauses_are, one.clauses_are, two.clauses_are, size);
      fits = omega (arith, number.fresh, own.fresh_is, own.within, one.fresh_is, two.fresh_is, one.fits, two.fits);
    }

pub some_terms : (bound : ℕ) (ts : List Weighted) → bound < weight ts → 1 ≤ length ts
some_terms bound [] passes = absurd (omega arith)
some_terms bound (t ∷ ts) passes = omega arith

-- where the fresh variables are within a budget, the clauses are fewer than 2 ^ 60
pub clauses_modest : (bound : ℕ) (ts : List Term) → 1 ≤ length ts → fresh_of (generalized bound) (tree_of (weights ts)) < 2 ^ 24 → clause_count_of (generalized bound) (tree_of (weights ts)) + 1 < 2 ^ 60
clauses_modest bound ts some fits =
    let b = bounds bound ts some in
    let m = fresh_of (generalized bound) (tree_of (weights ts)) + length ts in
    let small : m ≤ 2 ^ 25 = omega (arith, b.leaves, fits) in
    omega (arith, b.clauses, mul-le m m (2 ^ 25) (2 ^ 25) small small)

-- one justification for each clause
pub justifications_are : (bound : ℕ) (ts : List Term) (id : ℕ) → AreLeavesPositive (tree_of (weights ts)) → length (part_justifications bound ts id) ≡ clause_count_of (generalized bound) (tree_of (weights ts))
justifications_are bound ts id positive = justifications_counted (generalized bound) Always (generalized_lawful bound) generalized_pairs (generalized_by_pairs bound) (tree_of (weights ts)) 0 id positive
