-- How many clauses there are along a tree whose fresh variables are within the greatest budget.
use Rattle.std.proofs.Common.{◌≡◌, ◌<◌, ◌≤◌, ◌+◌, ◌^◌, ℕ, List, length, subst, arith}
use Rattle.std.proofs.lemmas.List.{length-map}
use Rattle.std.proofs.lemmas.Nat.{mul-le}
use Rattle.pb_norm.specs.Constraints.{Weighted, term_of, terms_of, weights}
use Rattle.pb_norm.specs.BoundedSums.{BoundedSum, IsProper}
use Rattle.pb_norm.proofs.KeptTerms.{weights-terms_of}
use Rattle.pb_norm.specs.Classes.{IsCardinality}
use Rattle.pb_norm.proofs.RestClasses.{units-weight}
use Rattle.pb_tree.specs.Tree.{Tree, empty, leaf, node, tree_of}
use Rattle.pb_tree.specs.Scheme.{fresh_of, own_count_of}
use Rattle.pb_totalizer.specs.Totalizer.{totalizer_fresh, totalizer_size, totalizer as scheme}
use Rattle.pb_totalizer.specs.laws.Counting as totalizer
use Rattle.pb_totalizer.specs.laws.TotalizerLaws.{leaf_count, values_count}
use Rattle.pb_gentot.specs.Generalized.{generalized_fresh, generalized_size}
use Rattle.pb_gentot.proofs.Bounds.{Bounds, bounds, some_terms}

-- each node of a totalizer has an output
leaves_few : (bound : ℕ) (t : Tree) → leaf_count t ≤ fresh_of (scheme bound) t + 1
leaves_few bound empty = omega arith
leaves_few bound (leaf w) = omega arith
leaves_few bound (node l r) = omega (arith, values_count bound (node l r), leaves_few bound l, leaves_few bound r)

pub totalizer_small : (m : BoundedSum) → IsCardinality m → totalizer_fresh m ≤ 10000000 → totalizer_size m < 2 ^ 50
totalizer_small m h modest =
    let all = totalizer.bounds m.bound (own_count_of (scheme m.bound)) (totalizer.own_in_grid m.bound) m.terms (omega (arith, h.proper.heavy, units-weight m.terms h.units)) in
    let n = length m.terms in
    let most : n ≤ 10000001 = omega (arith, all.leaves, leaves_few m.bound (tree_of m.terms), modest) in
    omega (arith, all.clauses, mul-le n n 10000001 10000001 most most)

tree_bounds : (bound : ℕ) (ts : List Weighted) → 1 ≤ length ts → Bounds bound (tree_of ts) (length ts)
tree_bounds bound ts some =
    let long : length (terms_of ts) ≡ length ts = length-map ts term_of in
    let kept : Bounds bound (tree_of (weights (terms_of ts))) (length (terms_of ts)) = bounds bound (terms_of ts) (omega (arith, long, some)) in
    let same : Bounds bound (tree_of ts) (length (terms_of ts)) = subst (λ (us : List Weighted). Bounds bound (tree_of us) (length (terms_of ts))) (weights-terms_of ts) kept in
    subst (λ (n : ℕ). Bounds bound (tree_of ts) n) long same

pub tree_small : (m : BoundedSum) → IsProper m → generalized_fresh m ≤ 10000000 → generalized_size m < 2 ^ 50
tree_small m h modest =
    let all = tree_bounds m.bound m.terms (some_terms m.bound m.terms h.heavy) in
    let n = generalized_fresh m + length m.terms in
    let most : n ≤ 20000001 = omega (arith, all.leaves, modest) in
    omega (arith, all.clauses, mul-le n n 20000001 20000001 most most)
