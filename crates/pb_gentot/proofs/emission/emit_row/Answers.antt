use Rattle.std.proofs.Common.{arith}
use Rattle.std.specs.Prelude.{slice_index}
use Rattle.pb_family.proofs.Emission.{emitting_starts}
use Rattle.pb_gentot.specs.inner.Nodes.{both_over, row_over}
use Rattle.pb_gentot.proofs.Steps.{value_step, value_fault, values_taken}
use Rattle.pb_gentot.proofs.emission.emit_row.Goals as goal

pub loop-j-init : goal.loop-j-init
loop-j-init g c = emitting_starts _ _

pub returns-in_err-clause : goal.returns-in_err-clause
returns-in_err-clause g c =
    let clause = both_over c.args.node.now (slice_index c.args.node.now.left.now.values.items c.args.i) in
    value_fault c.from_residual.result _ clause c.args.node.now.right.now.values.items c.loop-j.j _ _ c.from_residual.ensures.1 (omega arith) c.both_literals-one.ensures c.loop-j.invariant c.in_err-clause.ensures

pub loop-j-preserved : goal.loop-j-preserved
loop-j-preserved g c =
    let clause = both_over c.args.node.now (slice_index c.args.node.now.left.now.values.items c.args.i) in
    value_step clause c.args.node.now.right.now.values.items c.loop-j.j _ _ (omega arith) c.both_literals-one.ensures c.loop-j.invariant c.in_ok-clause.ensures

pub returns : goal.returns
returns g c =
    let clause = both_over c.args.node.now (slice_index c.args.node.now.left.now.values.items c.args.i) in
    values_taken {all = row_over c.args.node.now (slice_index c.args.node.now.left.now.values.items c.args.i)} clause c.args.node.now.right.now.values.items c.loop-j.j (omega arith) c.loop-j.invariant
