use Rattle.std.proofs.Common.{length, arith}
use Rattle.pb_tree.proofs.TreeHanded.{rowing_from, rowing_next, rowing_fault, rowing_ends, rowing_room}
use Rattle.pb_gentot.specs.inner.Sources.{row_given}
use Rattle.pb_gentot.proofs.Handed.{row_length}
use Rattle.pb_gentot.proofs.claims.derive_pairs.Goals as goal

pub loop-i-init : goal.loop-i-init
loop-i-init g c = rowing_from (row_given c.args.node.now) (length c.args.node.now.left.now.values.items) (g.T.StepSink.state c.args.sink.now)

pub derive_row-requires-clause-few : goal.derive_row-requires-clause-few
derive_row-requires-clause-few g c =
    let row = row_given c.args.node.now in
    let room = rowing_room row (length c.args.node.now.left.now.values.items) c.loop-i.i (g.T.StepSink.state c.args.sink.now) (g.T.StepSink.state c.loop-i.sink) (omega arith) c.loop-i.invariant in
    omega (arith, room, row_length c.args.node.now c.loop-i.i, c.requires)

pub returns-in_err-derive_row : goal.returns-in_err-derive_row
returns-in_err-derive_row g c =
    let row = row_given c.args.node.now in
    rowing_fault row (length c.args.node.now.left.now.values.items) c.loop-i.i (g.T.StepSink.state c.args.sink.now) (g.T.StepSink.state c.loop-i.sink) (omega arith) c.loop-i.invariant c.from_residual.result _ (g.T.StepSink.state c.derive_row.new.sink) c.from_residual.ensures.1 c.in_err-derive_row.ensures

pub loop-i-preserved : goal.loop-i-preserved
loop-i-preserved g c =
    let row = row_given c.args.node.now in
    rowing_next row (length c.args.node.now.left.now.values.items) c.loop-i.i (g.T.StepSink.state c.args.sink.now) (g.T.StepSink.state c.loop-i.sink) (omega arith) c.loop-i.invariant (g.T.StepSink.state c.derive_row.new.sink) c.in_ok-derive_row.ensures

pub returns : goal.returns
returns g c =
    let row = row_given c.args.node.now in
    rowing_ends row (length c.args.node.now.left.now.values.items) c.loop-i.i (g.T.StepSink.state c.args.sink.now) (g.T.StepSink.state c.loop-i.sink) (omega arith) c.loop-i.invariant
