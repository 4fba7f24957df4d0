use Rattle.std.proofs.Common.{length}
use Rattle.pb_tree.proofs.TreeHanded.{Rowing}
use Rattle.pb_gentot.specs.inner.Sources.{row_given}
use Rattle.pb_gentot.proofs.claims.derive_pairs.Given as goal

abbrev pub invariant-loop-i : goal.invariant-loop-i
invariant-loop-i g l = Rowing (row_given l.node) (length l.node.left.now.values.items) l.i (g.T.StepSink.state l.fn.sink) (g.T.StepSink.state l.sink)
