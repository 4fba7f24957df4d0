use Rattle.std.proofs.Common.{◌+◌, arith}
use Rattle.pb_tree.proofs.TreeHanded.{rowing_from, rowing_next, rowing_fault, rowing_ends, rowing_room}
use Rattle.pb_totalizer.specs.inner.Rows.{row_beside}
use Rattle.pb_totalizer.proofs.row_claims.derive_rows.Goals as goal

pub loop-i-init : goal.loop-i-init
loop-i-init g c = rowing_from (row_beside c.args.direction c.args.node.now) (c.args.node.now.left.count + 1) (g.T.StepSink.state c.args.sink.now)

pub derive_row-requires-clause-room : goal.derive_row-requires-clause-room
derive_row-requires-clause-room g c =
    let row = row_beside c.args.direction c.args.node.now in
    omega (arith, rowing_room row (c.args.node.now.left.count + 1) c.loop-i.i (g.T.StepSink.state c.args.sink.now) (g.T.StepSink.state c.loop-i.sink) (omega arith) c.loop-i.invariant, c.requires)

pub returns-in_err-derive_row : goal.returns-in_err-derive_row
returns-in_err-derive_row g c =
    let row = row_beside c.args.direction c.args.node.now in
    rowing_fault row (c.args.node.now.left.count + 1) c.loop-i.i (g.T.StepSink.state c.args.sink.now) (g.T.StepSink.state c.loop-i.sink) (omega arith) c.loop-i.invariant c.from_residual.result _ (g.T.StepSink.state c.derive_row.new.sink) c.from_residual.ensures.1 c.in_err-derive_row.ensures

pub loop-i-preserved : goal.loop-i-preserved
loop-i-preserved g c =
    let row = row_beside c.args.direction c.args.node.now in
    rowing_next row (c.args.node.now.left.count + 1) c.loop-i.i (g.T.StepSink.state c.args.sink.now) (g.T.StepSink.state c.loop-i.sink) (omega arith) c.loop-i.invariant (g.T.StepSink.state c.derive_row.new.sink) c.in_ok-derive_row.ensures

pub returns : goal.returns
returns g c =
    let row = row_beside c.args.direction c.args.node.now in
    rowing_ends row (c.args.node.now.left.count + 1) c.loop-i.i (g.T.StepSink.state c.args.sink.now) (g.T.StepSink.state c.loop-i.sink) (omega arith) c.loop-i.invariant
