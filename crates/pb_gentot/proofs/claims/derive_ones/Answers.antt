use Rattle.std.proofs.Common.{length, arith}
use Rattle.pb_family.proofs.Looping.{looping_from, justifications_are, pieces_next, pieces_fault, pieces_end}
use Rattle.pb_family.proofs.Sequence.{justification_piece}
use Rattle.pb_gentot.specs.inner.Sources.{one_at}
use Rattle.pb_gentot.proofs.claims.derive_ones.Goals as goal

pub loop-place-init : goal.loop-place-init
loop-place-init g c = looping_from (justification_piece (one_at c.args.node.now c.args.part.now c.args.others.now)) 1 (length c.args.part.now.values.items) (g.T.StepSink.state c.args.sink.now)

pub derive_one-requires-clause-has : goal.derive_one-requires-clause-has
derive_one-requires-clause-has g c = c.requires.has c.loop-place.place 0 (omega arith)

pub returns-in_err-derive_one : goal.returns-in_err-derive_one
returns-in_err-derive_one g c =
    pieces_fault (justifications_are (one_at c.args.node.now c.args.part.now c.args.others.now) (length c.args.part.now.values.items)) c.loop-place.invariant c.from_residual.result _ (g.T.StepSink.state c.derive_one.new.sink) (omega arith) c.from_residual.ensures.1 c.in_err-derive_one.ensures

pub loop-place-preserved : goal.loop-place-preserved
loop-place-preserved g c =
    pieces_next (justifications_are (one_at c.args.node.now c.args.part.now c.args.others.now) (length c.args.part.now.values.items)) c.loop-place.invariant (g.T.StepSink.state c.derive_one.new.sink) (omega arith) c.in_ok-derive_one.ensures

pub returns : goal.returns
returns g c = pieces_end (justifications_are (one_at c.args.node.now c.args.part.now c.args.others.now) (length c.args.part.now.values.items)) c.loop-place.invariant (omega arith)
