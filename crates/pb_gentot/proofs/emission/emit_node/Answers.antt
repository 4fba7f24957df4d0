use Rattle.pb_family.proofs.Emission.{emitting_starts, emitting_step, hands_fault, hands_last}
use Rattle.pb_gentot.specs.inner.Nodes.{ones_over, pairs_over, clauses_over}
use Rattle.pb_gentot.proofs.Over.{has_sums}
use Rattle.pb_gentot.proofs.emission.emit_node.Goals as goal

pub returns-in_err-emit_ones : goal.returns-in_err-emit_ones
returns-in_err-emit_ones g c =
    let n = c.args.node.now in
    hands_fault {all = clauses_over n} c.from_residual.result _ (ones_over n n.left.now) _ _ c.from_residual.ensures.1 (emitting_starts _ _) c.in_err-emit_ones.ensures

pub returns-in_err-emit_ones-2 : goal.returns-in_err-emit_ones-2
returns-in_err-emit_ones-2 g c =
    let n = c.args.node.now in
    let one = emitting_step {all = clauses_over n} (ones_over n n.left.now) _ (emitting_starts _ _) c.in_ok-emit_ones.ensures in
    hands_fault c.from_residual-in_err-emit_ones-2.result _ (ones_over n n.right.now) _ _ c.from_residual-in_err-emit_ones-2.ensures.1 one c.in_err-emit_ones-2.ensures

pub returns : goal.returns
returns g c =
    let n = c.args.node.now in
    let one = emitting_step {all = clauses_over n} (ones_over n n.left.now) _ (emitting_starts _ _) c.in_ok-emit_ones.ensures in
    hands_last c.emit_pairs.result (pairs_over n) _ (emitting_step (ones_over n n.right.now) _ one c.in_ok-emit_ones-2.ensures) c.emit_pairs.ensures

pub emit_ones-requires : goal.emit_ones-requires
emit_ones-requires g c = let n = c.args.node.now in (has_sums n.cap n.left.now.values.items n.right.now.values.items n.own.now.values.items n.left_within n.right_within n.made).lefts

pub emit_ones-requires-2 : goal.emit_ones-requires-2
emit_ones-requires-2 g c = let n = c.args.node.now in (has_sums n.cap n.left.now.values.items n.right.now.values.items n.own.now.values.items n.left_within n.right_within n.made).rights
