-- How many clauses lead from outputs to parts, within the grid of these, and along a tree.
use Rattle.std.proofs.Common.{◌≡◌, ◌≤◌, ◌+◌, ◌-◌, ◌*◌, ℕ, refl, arith, zero, suc}
use Rattle.std.proofs.lemmas.Nat.{mul-le}
use Rattle.pb_tree.specs.Tree.{Tree, empty, leaf, node, tree_of}
use Rattle.pb_tree.specs.Scheme.{count_along, own_count_of, clause_count_of}
use Rattle.pb_norm.specs.BoundedSums.{BoundedSum}
use Rattle.pb_totalizer.specs.Exact.{limit_count, outputs_of, limit_count_of, limits_along, exact_size}
use Rattle.pb_totalizer.specs.Totalizer.{totalizer}
use Rattle.pb_totalizer.specs.laws.Counting.{IsInGrid, limits_doubled}
use Rattle.pb_totalizer.specs.laws.TotalizerLaws.{values_count, node_length}

some_pair : (z : ℕ) → 1 ≤ z → 2 ≤ z * (z + 1)
some_pair zero some = absurd (omega arith)
some_pair (suc z) some = omega (arith, mul-le 1 2 (suc z) (suc z + 1) (omega arith) (omega arith))

pub limits_bound : (c a b : ℕ) → a ≤ c → b ≤ c → c ≤ a + b → limit_count c a b + 1 ≤ (a + 1) * (b + 1)
limits_bound c a b left right within = omega (arith, limits_doubled c b a left right, some_pair (a + b + 1 - c) (omega arith))

pub limits_in_grid : (bound : ℕ) → IsInGrid bound (limit_count_of bound)
limits_in_grid bound l r =
    let count = node_length bound l r in
    let left = values_count bound l in
    let right = values_count bound r in
    limits_bound (outputs_of bound (node l r)) (outputs_of bound l) (outputs_of bound r) (omega arith) (omega arith) (omega arith)

-- both directions and the root's
pub split_count : (bound : ℕ) (t : Tree) → count_along (λ l r. own_count_of (totalizer bound) l r + limit_count_of bound l r) t ≡ clause_count_of (totalizer bound) t + limits_along bound t
split_count bound empty = refl
split_count bound (leaf t) = refl
split_count bound (node l r) = omega (arith, split_count bound l, split_count bound r)

pub size_split : (m : BoundedSum) → exact_size m ≡ clause_count_of (totalizer m.bound) (tree_of m.terms) + limits_along m.bound (tree_of m.terms) + 2
size_split m = omega (arith, split_count m.bound (tree_of m.terms))
