use Rattle.std.proofs.Common.{arith}
use Rattle.std.specs.Prelude.{slice_index}
use Rattle.pb_family.proofs.Emission.{emitting_starts, emitting_step, hands_fault}
use Rattle.pb_gentot.specs.inner.Nodes.{row_over}
use Rattle.pb_gentot.proofs.Steps.{row_next, rows_taken}
use Rattle.pb_gentot.proofs.emission.emit_pairs.Goals as goal

pub loop-i-init : goal.loop-i-init
loop-i-init g c = emitting_starts _ _

pub returns-in_err-emit_row : goal.returns-in_err-emit_row
returns-in_err-emit_row g c =
    let row = row_over c.args.node.now in
    let u = slice_index c.args.node.now.left.now.values.items c.loop-i.i in
    hands_fault c.from_residual.result _ (row u) _ _ c.from_residual.ensures.1 (row_next row c.args.node.now.left.now.values.items c.loop-i.i (omega arith) c.loop-i.invariant) c.in_err-emit_row.ensures

pub loop-i-preserved : goal.loop-i-preserved
loop-i-preserved g c =
    let row = row_over c.args.node.now in
    let u = slice_index c.args.node.now.left.now.values.items c.loop-i.i in
    emitting_step (row u) _ (row_next row c.args.node.now.left.now.values.items c.loop-i.i (omega arith) c.loop-i.invariant) c.in_ok-emit_row.ensures

pub returns : goal.returns
returns g c =
    rows_taken (row_over c.args.node.now) c.args.node.now.left.now.values.items c.loop-i.i (omega arith) c.loop-i.invariant
