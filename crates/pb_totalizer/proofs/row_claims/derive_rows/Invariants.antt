use Rattle.std.proofs.Common.{◌+◌}
use Rattle.pb_tree.proofs.TreeHanded.{Rowing}
use Rattle.pb_totalizer.specs.inner.Rows.{row_beside}
use Rattle.pb_totalizer.proofs.row_claims.derive_rows.Given as goal

abbrev pub invariant-loop-i : goal.invariant-loop-i
invariant-loop-i g l = Rowing (row_beside l.direction l.node) (l.node.left.count + 1) l.i (g.T.StepSink.state l.fn.sink) (g.T.StepSink.state l.sink)
