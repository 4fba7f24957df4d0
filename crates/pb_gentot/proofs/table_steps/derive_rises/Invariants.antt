use Rattle.pb_family.proofs.Looping.{Looping}
use Rattle.pb_family.proofs.Sequence.{justification_piece}
use Rattle.pb_gentot.specs.inner.KeptTables.{rise_at}
use Rattle.pb_gentot.proofs.table_steps.derive_rises.Given as goal

abbrev pub invariant-loop-place : goal.invariant-loop-place
invariant-loop-place g l = Looping (justification_piece (rise_at l.id)) 1 l.count l.place (g.T.StepSink.state l.fn.sink) (g.T.StepSink.state l.sink)
