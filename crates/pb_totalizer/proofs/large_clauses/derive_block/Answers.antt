use Rattle.std.proofs.Common.{arith}
use Rattle.pb_totalizer.specs.inner.Larges.{large_of}
use Rattle.pb_totalizer.proofs.LargeHanding.{windows_stopped, windows_next, claims_stopped, claims_next, block_handed}
use Rattle.pb_totalizer.proofs.LargeSteps.{claims_counted}
use Rattle.pb_totalizer.proofs.large_clauses.derive_block.Goals as goal

pub returns-in_err-derive_windows : goal.returns-in_err-derive_windows
returns-in_err-derive_windows g c =
    let w = large_of c.args.of.now in
    let old = g.T.StepSink.state c.args.sink.now in
    windows_stopped w c.args.number old c.from_residual.result _ (g.T.StepSink.state c.derive_windows.new.sink) c.from_residual.ensures.1 c.in_err-derive_windows.ensures

pub derive_block_claims-requires : goal.derive_block_claims-requires
derive_block_claims-requires g c =
    let w = large_of c.args.of.now in
    let old = g.T.StepSink.state c.args.sink.now in
    let mid = g.T.StepSink.state c.derive_windows.new.sink in
    record { room = omega (arith, c.requires.room, windows_next w c.args.number old mid c.in_ok-derive_windows.ensures c.next_id-windows.result c.next_id-windows.ensures, claims_counted w c.next_id-windows.result c.args.number) }

pub returns-in_err-derive_block_claims : goal.returns-in_err-derive_block_claims
returns-in_err-derive_block_claims g c =
    let w = large_of c.args.of.now in
    let old = g.T.StepSink.state c.args.sink.now in
    let mid = g.T.StepSink.state c.derive_windows.new.sink in
    claims_stopped w c.args.number old mid c.in_ok-derive_windows.ensures c.next_id-windows.result c.next_id-windows.ensures c.from_residual-in_err-derive_block_claims.result _ (g.T.StepSink.state c.derive_block_claims.new.sink) c.from_residual-in_err-derive_block_claims.ensures.1
    c.in_err-derive_block_claims.ensures

pub derive_deletion-requires-clause-few : goal.derive_deletion-requires-clause-few
derive_deletion-requires-clause-few g c =
    let w = large_of c.args.of.now in
    let old = g.T.StepSink.state c.args.sink.now in
    let mid = g.T.StepSink.state c.derive_windows.new.sink in
    let last = g.T.StepSink.state c.derive_block_claims.new.sink in
    omega (arith, c.requires.room, claims_next w c.args.number old mid c.in_ok-derive_windows.ensures c.next_id-windows.result c.next_id-windows.ensures last c.in_ok-derive_block_claims.ensures)

pub returns : goal.returns
returns g c =
    let w = large_of c.args.of.now in
    let old = g.T.StepSink.state c.args.sink.now in
    let mid = g.T.StepSink.state c.derive_windows.new.sink in
    let last = g.T.StepSink.state c.derive_block_claims.new.sink in
    block_handed w c.args.number old mid c.in_ok-derive_windows.ensures c.next_id-windows.result c.next_id-windows.ensures last c.in_ok-derive_block_claims.ensures c.derive_deletion.result (g.T.StepSink.state c.derive_deletion.new.sink) c.windows.result c.windows.ensures c.derive_deletion.ensures
