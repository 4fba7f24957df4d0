use Rattle.std.proofs.Common.{length}
use Rattle.pb_family.proofs.Looping.{Looping}
use Rattle.pb_family.proofs.Sequence.{justification_piece}
use Rattle.pb_gentot.specs.inner.Sources.{one_at}
use Rattle.pb_gentot.proofs.claims.derive_ones.Given as goal

abbrev pub invariant-loop-place : goal.invariant-loop-place
invariant-loop-place g l = Looping (justification_piece (one_at l.node l.part l.others)) 1 (length l.part.values.items) l.place (g.T.StepSink.state l.fn.sink) (g.T.StepSink.state l.sink)
