-- A part of a totalizer, over its two halves.
use Rattle.std.proofs.Common.{◌≡◌, ◌≤◌, ◌+◌, ℕ, List, length, min, ap, sym, ◌∙◌, arith}
use Rattle.std.proofs.lemmas.List.FromFn.{length-range_with_len}
use Rattle.pb_base.specs.declared.literal.Term.{Term}
use Rattle.pb_norm.specs.Constraints.{weights}
use Rattle.pb_tree.specs.Halves.{Halves}
use Rattle.std.specs.List.{range_with_len}
use Rattle.pb_tree.specs.Scheme.{values, fresh_of}
use Rattle.pb_tree.specs.Tree.{node, tree_of}
use Rattle.pb_tree.specs.Walks.{AreParts, Suits, fresh_over}
use Rattle.pb_totalizer.specs.Exact.{outputs_of}
use Rattle.pb_totalizer.specs.Totalizer.{totalizer}
use Rattle.pb_totalizer.specs.laws.TotalizerLaws.{node_length, values_length}

-- the halves that the code takes, and the numbers of the part by theirs
pub record Halved (bound : ℕ) (ts lefts rights : List Term) : Type 0 where
  pub tree : tree_of (weights ts) ≡ node (tree_of (weights lefts)) (tree_of (weights rights))
  pub left_within : outputs_of bound (tree_of (weights lefts)) ≤ bound + 1
  pub right_within : outputs_of bound (tree_of (weights rights)) ≤ bound + 1
  pub outputs : outputs_of bound (tree_of (weights ts)) ≡ min (outputs_of bound (tree_of (weights lefts)) + outputs_of bound (tree_of (weights rights))) (bound + 1)
  pub fresh : fresh_of (totalizer bound) (tree_of (weights ts)) ≡ fresh_of (totalizer bound) (tree_of (weights lefts)) + fresh_of (totalizer bound) (tree_of (weights rights)) + outputs_of bound (tree_of (weights ts))

pub halved : (bound : ℕ) {ts lefts rights : List Term} → Halves ts lefts rights → Halved bound ts lefts rights
halved bound {ts} {lefts} {rights} halves =
    let l = tree_of (weights lefts) in
    let r = tree_of (weights rights) in
    let long : outputs_of bound (tree_of (weights ts)) ≡ outputs_of bound (node l r) = ap (outputs_of bound) halves.tree in
    let whole : fresh_of (totalizer bound) (tree_of (weights ts)) ≡ fresh_of (totalizer bound) l + fresh_of (totalizer bound) r + outputs_of bound (node l r) = ap (fresh_of (totalizer bound)) halves.tree in
    record {
      tree = halves.tree;
      left_within = values_length bound l;
      right_within = values_length bound r;
      outputs = long ∙ node_length bound l r;
      fresh = omega (arith, whole, long);
    }

-- a node of a walk, its outputs by those of its parts, and its fresh variables
pub record IsNode (bound most before next count : ℕ) (ts front back : List Term) : Type 0 where
  pub half : Halved bound ts front back
  pub counted : count ≡ outputs_of bound (tree_of (weights ts))
  pub own : count ≡ outputs_of bound (node (tree_of (weights front)) (tree_of (weights back)))
  pub after : next + count ≡ before + fresh_over (totalizer bound) ts
  pub within : next + count ≤ most

pub node_of : {bound most before next count a b : ℕ} {ts front back : List Term} → AreParts (totalizer bound) ts front back before next → Suits (totalizer bound) most ts before
    → count ≡ min (a + b) (bound + 1) → a ≡ outputs_of bound (tree_of (weights front)) → b ≡ outputs_of bound (tree_of (weights back)) → IsNode bound most before next count ts front back
node_of {bound} {ts = ts} {front} {back} parts suits is left right =
    let half = halved bound parts.halves in
    let whole = ap (outputs_of bound) half.tree in
    record {
      half = half;
      counted = omega (arith, half.outputs, is, left, right);
      own = omega (arith, half.outputs, is, left, right, whole);
      after = omega (arith, half.outputs, is, left, right, half.fresh, parts.behind);
      within = omega (arith, half.outputs, is, left, right, half.fresh, parts.behind, suits.fits);
    }

-- how many values the code has of a part
pub part_count : (bound : ℕ) (ts : List Term) (count : ℕ) → range_with_len 1 count ≡ values (totalizer bound) (tree_of (weights ts)) → count ≡ outputs_of bound (tree_of (weights ts))
part_count bound ts count is = sym (length-range_with_len 1 count) ∙ ap length is
