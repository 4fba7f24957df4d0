use Rattle.std.proofs.Common.{List, length, subst, arith}
use Rattle.pb_norm.specs.Constraints.{weights}
use Rattle.pb_steps.specs.declared.step.Step.{Step}
use Rattle.pb_family.specs.StepSinks.{TakesSteps}
use Rattle.pb_family.proofs.Looping.{looping_from, pieces_next, pieces_fault, pieces_end}
use Rattle.pb_family.proofs.Sequence.{reification_piece}
use Rattle.pb_tree.proofs.OutputPieces.{output_reification, outputs_are, output_named}
use Rattle.pb_tree.proofs.TreeHanded.{stopped_as}
use Rattle.pb_tree.proofs.meanings.derive_outputs.Goals as goal

pub loop-place-init : goal.loop-place-init
loop-place-init g c =
    let us = g.V.TreeSum.list c.args.values.now in
    looping_from (reification_piece (output_reification c.args.first (weights c.args.terms.now) us)) 2 (length us) (g.T.StepSink.state c.args.sink.now)

pub derive_reification-requires-clause-few : goal.derive_reification-requires-clause-few
derive_reification-requires-clause-few g c = omega (arith, c.loop-place.invariant.count, c.requires.few, c.count-place-end.ensures)

pub returns-in_err-derive_reification : goal.returns-in_err-derive_reification
returns-in_err-derive_reification g c =
    let us = g.V.TreeSum.list c.args.values.now in
    let ts = weights c.args.terms.now in
    let now = g.T.StepSink.state c.loop-place.sink in
    let after = g.T.StepSink.state c.derive_reification.new.sink in
    let same = output_named c.args.first ts us now.next c.loop-place.place _ _ c.fresh_at-var.ensures c.value.ensures in
    pieces_fault (outputs_are c.args.first ts us) c.loop-place.invariant c.from_residual.result _ after (omega (arith, c.count-place-end.ensures)) c.from_residual.ensures.1
    (stopped_as same c.in_err-derive_reification.ensures)

pub loop-place-preserved : goal.loop-place-preserved
loop-place-preserved g c =
    let us = g.V.TreeSum.list c.args.values.now in
    let ts = weights c.args.terms.now in
    let now = g.T.StepSink.state c.loop-place.sink in
    let after = g.T.StepSink.state c.derive_reification.new.sink in
    let same = output_named c.args.first ts us now.next c.loop-place.place _ _ c.fresh_at-var.ensures c.value.ensures in
    pieces_next (outputs_are c.args.first ts us) c.loop-place.invariant after (omega (arith, c.count-place-end.ensures))
    (subst (λ (ss : List Step). TakesSteps ss now after) same c.in_ok-derive_reification.ensures)

pub returns : goal.returns
returns g c =
    pieces_end (outputs_are c.args.first (weights c.args.terms.now) (g.V.TreeSum.list c.args.values.now)) c.loop-place.invariant (omega (arith, c.count-place-end.ensures))
