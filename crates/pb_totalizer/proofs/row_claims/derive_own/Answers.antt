use Rattle.std.proofs.Common.{arith, length-append}
use Rattle.pb_family.proofs.FlatPieces.{justifications_then, justifications_stopped, justifications_next}
use Rattle.pb_totalizer.specs.declared.polarity.Direction.TheVariants.{Up, Down}
use Rattle.pb_totalizer.specs.inner.Rows.{rows_beside}
use Rattle.pb_totalizer.proofs.row_claims.derive_own.Goals as goal

pub derive_rows-requires : goal.derive_rows-requires
derive_rows-requires g c =
    let nodes = rows_beside Up c.args.node.now in
    let limits = rows_beside Down c.args.node.now in
    omega (arith, length-append nodes limits, c.requires)

pub returns-in_err-derive_rows : goal.returns-in_err-derive_rows
returns-in_err-derive_rows g c =
    let nodes = rows_beside Up c.args.node.now in
    let limits = rows_beside Down c.args.node.now in
    justifications_stopped c.from_residual.result _ nodes limits (g.T.StepSink.state c.args.sink.now) (g.T.StepSink.state c.derive_rows.new.sink) c.from_residual.ensures.1 c.in_err-derive_rows.ensures

pub derive_rows-requires-2 : goal.derive_rows-requires-2
derive_rows-requires-2 g c =
    let nodes = rows_beside Up c.args.node.now in
    let limits = rows_beside Down c.args.node.now in
    let next = justifications_next nodes (g.T.StepSink.state c.args.sink.now) (g.T.StepSink.state c.derive_rows.new.sink) c.in_ok-derive_rows.ensures in
    omega (arith, next, length-append nodes limits, c.requires)

pub returns : goal.returns
returns g c =
    let nodes = rows_beside Up c.args.node.now in
    let limits = rows_beside Down c.args.node.now in
    justifications_then c.derive_rows-2.result nodes limits (g.T.StepSink.state c.args.sink.now) (g.T.StepSink.state c.derive_rows.new.sink) (g.T.StepSink.state c.derive_rows-2.new.sink) c.in_ok-derive_rows.ensures c.derive_rows-2.ensures
