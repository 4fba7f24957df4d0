use Rattle.std.proofs.Common.{suc}
use Rattle.pb_totalizer.specs.inner.Larges.{large_of}
use Rattle.pb_totalizer.specs.inner.Windows.{last_block}
use Rattle.pb_totalizer.proofs.LargeHanding.{BlocksTaken}
use Rattle.pb_totalizer.proofs.large_clauses.derive_all_blocks.Given as goal

abbrev pub invariant-loop-number : goal.invariant-loop-number
invariant-loop-number g l = BlocksTaken (large_of l.of) (suc (last_block l.of.left)) l.number (g.T.StepSink.state l.fn.sink) (g.T.StepSink.state l.sink)
