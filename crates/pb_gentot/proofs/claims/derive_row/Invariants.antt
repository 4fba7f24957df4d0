use Rattle.std.proofs.Common.{length}
use Rattle.pb_family.proofs.Looping.{Looping}
use Rattle.pb_family.proofs.Sequence.{justification_piece}
use Rattle.pb_gentot.specs.inner.Sources.{both_at}
use Rattle.pb_gentot.proofs.claims.derive_row.Given as goal

abbrev pub invariant-loop-j : goal.invariant-loop-j
invariant-loop-j g l = Looping (justification_piece (both_at l.node l.i)) 1 (length l.node.right.now.values.items) l.j (g.T.StepSink.state l.fn.sink) (g.T.StepSink.state l.sink)
