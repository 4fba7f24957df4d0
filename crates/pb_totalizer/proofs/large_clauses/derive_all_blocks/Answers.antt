use Rattle.std.proofs.Common.{suc, arith}
use Rattle.pb_totalizer.specs.inner.Larges.{large_of}
use Rattle.pb_totalizer.specs.inner.Windows.{last_block}
use Rattle.pb_totalizer.proofs.LargeHanding.{blocks_from, blocks_room, blocks_next, blocks_fault, blocks_end}
use Rattle.pb_totalizer.proofs.large_clauses.derive_all_blocks.Goals as goal

pub loop-number-init : goal.loop-number-init
loop-number-init g c =
    let n = c.args.of.now in
    blocks_from (large_of n) (suc (last_block n.left)) (g.T.StepSink.state c.args.sink.now)

pub derive_block-requires-clause-room : goal.derive_block-requires-clause-room
derive_block-requires-clause-room g c =
    let n = c.args.of.now in
    omega (arith, c.requires.room, blocks_room (large_of n) (suc (last_block n.left)) c.loop-number.number (g.T.StepSink.state c.args.sink.now) (g.T.StepSink.state c.loop-number.sink) (omega arith) c.loop-number.invariant)

pub returns-in_err-derive_block : goal.returns-in_err-derive_block
returns-in_err-derive_block g c =
    let n = c.args.of.now in
    blocks_fault (large_of n) (suc (last_block n.left)) c.loop-number.number (g.T.StepSink.state c.args.sink.now) (g.T.StepSink.state c.loop-number.sink) (omega arith) c.loop-number.invariant c.from_residual.result _ (g.T.StepSink.state c.derive_block.new.sink) c.from_residual.ensures.1
    c.in_err-derive_block.ensures

pub loop-number-preserved : goal.loop-number-preserved
loop-number-preserved g c =
    let n = c.args.of.now in
    blocks_next (large_of n) (suc (last_block n.left)) c.loop-number.number (g.T.StepSink.state c.args.sink.now) (g.T.StepSink.state c.loop-number.sink) (omega arith) c.loop-number.invariant (g.T.StepSink.state c.derive_block.new.sink) c.in_ok-derive_block.ensures

pub returns : goal.returns
returns g c =
    let n = c.args.of.now in
    blocks_end (large_of n) (suc (last_block n.left)) c.loop-number.number (g.T.StepSink.state c.args.sink.now) (g.T.StepSink.state c.loop-number.sink) (omega arith) c.loop-number.invariant
