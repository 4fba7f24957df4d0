use Rattle.std.proofs.Common.{arith}
use Rattle.pb_family.proofs.Looping.{looping_from, justifications_are, pieces_next, pieces_fault, pieces_end}
use Rattle.pb_family.proofs.Sequence.{justification_piece}
use Rattle.pb_gentot.specs.inner.KeptTables.{rise_at}
use Rattle.pb_gentot.proofs.table_steps.derive_rises.Goals as goal

pub loop-place-init : goal.loop-place-init
loop-place-init g c = looping_from (justification_piece (rise_at c.args.id)) 1 c.args.count (g.T.StepSink.state c.args.sink.now)

pub returns-in_err-derive_rise : goal.returns-in_err-derive_rise
returns-in_err-derive_rise g c =
    pieces_fault (justifications_are (rise_at c.args.id) c.args.count) c.loop-place.invariant c.from_residual.result _ (g.T.StepSink.state c.derive_rise.new.sink) (omega arith) c.from_residual.ensures.1 c.in_err-derive_rise.ensures

pub loop-place-preserved : goal.loop-place-preserved
loop-place-preserved g c =
    pieces_next (justifications_are (rise_at c.args.id) c.args.count) c.loop-place.invariant (g.T.StepSink.state c.derive_rise.new.sink) (omega arith) c.in_ok-derive_rise.ensures

pub returns : goal.returns
returns g c = pieces_end (justifications_are (rise_at c.args.id) c.args.count) c.loop-place.invariant (omega arith)
