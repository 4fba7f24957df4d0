use Rattle.std.proofs.Common.{◌≡◌, ◌+◌, min, ap, sym, ◌∙◌, arith}
use Rattle.std.specs.List.{range_with_len}
use Rattle.pb_norm.specs.Constraints.{weights}
use Rattle.pb_tree.specs.Scheme.{values}
use Rattle.pb_tree.specs.Tree.{tree_of}
use Rattle.pb_totalizer.specs.Exact.{outputs_of}
use Rattle.pb_totalizer.specs.Totalizer.{totalizer}
use Rattle.pb_totalizer.specs.laws.TotalizerLaws.{values_length}
use Rattle.pb_totalizer.proofs.Halved.{part_count}
use Rattle.pb_totalizer.proofs.whole.WholeTreeSum.node_values.Goals as goal

pub overflow_add-parts : goal.overflow_add-parts
overflow_add-parts c =
    let w = c.args.self.now in
    let parts = c.args.parts.now in
    omega (
      arith,
      part_count w.bound parts.lefts.now parts.left.now c.requires.left,
      part_count w.bound parts.rights.now parts.right.now c.requires.right,
      values_length w.bound (tree_of (weights parts.lefts.now)),
      values_length w.bound (tree_of (weights parts.rights.now)),
      w.whole.more,
      w.whole.few,
    )

pub returns : goal.returns
returns c =
    let bound = c.args.self.now.bound in
    let parts = c.args.parts.now in
    let left = part_count bound parts.lefts.now parts.left.now c.requires.left in
    let right = part_count bound parts.rights.now parts.right.now c.requires.right in
    let own : c.min.result ≡ min (outputs_of bound (tree_of (weights parts.lefts.now)) + outputs_of bound (tree_of (weights parts.rights.now))) (bound + 1) = omega (arith, c.min.ensures, left, right) in
    ap (range_with_len 1) own ∙ ap (values (totalizer bound)) (sym c.requires.parts.halves.tree)
