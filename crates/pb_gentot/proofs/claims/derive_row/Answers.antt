use Rattle.std.proofs.Common.{length, arith}
use Rattle.pb_family.proofs.Looping.{looping_from, justifications_are, pieces_next, pieces_fault, pieces_end}
use Rattle.pb_family.proofs.Sequence.{justification_piece}
use Rattle.pb_gentot.specs.inner.Sources.{both_at}
use Rattle.pb_gentot.proofs.claims.derive_row.Goals as goal

pub loop-j-init : goal.loop-j-init
loop-j-init g c = looping_from (justification_piece (both_at c.args.node.now c.args.i)) 1 (length c.args.node.now.right.now.values.items) (g.T.StepSink.state c.args.sink.now)

pub returns-in_err-derive_both : goal.returns-in_err-derive_both
returns-in_err-derive_both g c =
    pieces_fault (justifications_are (both_at c.args.node.now c.args.i) (length c.args.node.now.right.now.values.items)) c.loop-j.invariant c.from_residual.result _ (g.T.StepSink.state c.derive_both.new.sink) (omega arith) c.from_residual.ensures.1 c.in_err-derive_both.ensures

pub loop-j-preserved : goal.loop-j-preserved
loop-j-preserved g c =
    pieces_next (justifications_are (both_at c.args.node.now c.args.i) (length c.args.node.now.right.now.values.items)) c.loop-j.invariant (g.T.StepSink.state c.derive_both.new.sink) (omega arith) c.in_ok-derive_both.ensures

pub returns : goal.returns
returns g c = pieces_end (justifications_are (both_at c.args.node.now c.args.i) (length c.args.node.now.right.now.values.items)) c.loop-j.invariant (omega arith)
