use Rattle.std.proofs.Common.{arith}
use Rattle.pb_totalizer.specs.inner.Joints.{joint_claims}
use Rattle.pb_totalizer.specs.laws.OutputFine.{claims-ids}
use Rattle.pb_totalizer.proofs.ClauseHanding.{claims_counted, narrow_form}
use Rattle.pb_totalizer.proofs.NodeHanding.{lefts_stopped, rights_stopped, body_stopped, form_handed}
use Rattle.pb_totalizer.proofs.joint_clauses.derive_by_outputs.Goals as goal

pub returns-in_err-derive_lines : goal.returns-in_err-derive_lines
returns-in_err-derive_lines g c =
    let old = g.T.StepSink.state c.args.sink.now in
    let mid = g.T.StepSink.state c.derive_lines.new.sink in
    lefts_stopped (narrow_form c.args.node.now) old c.from_residual.result _ mid c.from_residual.ensures.1 c.in_err-derive_lines.ensures.hands

pub returns-in_err-derive_lines-2 : goal.returns-in_err-derive_lines-2
returns-in_err-derive_lines-2 g c =
    let old = g.T.StepSink.state c.args.sink.now in
    let mid = g.T.StepSink.state c.derive_lines.new.sink in
    let mid_2 = g.T.StepSink.state c.derive_lines-2.new.sink in
    rights_stopped (narrow_form c.args.node.now) old mid c.in_ok-derive_lines.ensures.hands c.in_ok-derive_lines.ensures.next c.from_residual-in_err-derive_lines-2.result _ mid_2 c.from_residual-in_err-derive_lines-2.ensures.1 c.in_err-derive_lines-2.ensures.hands

pub derive_claims-requires : goal.derive_claims-requires
derive_claims-requires g c =
    let n = c.args.node.now in
    record { room = omega (arith, c.requires.room, c.in_ok-derive_lines.ensures.next, c.in_ok-derive_lines-2.ensures.next, claims_counted n c.others.result c.others-2.result) }

pub returns-in_err-derive_claims : goal.returns-in_err-derive_claims
returns-in_err-derive_claims g c =
    let old = g.T.StepSink.state c.args.sink.now in
    let mid = g.T.StepSink.state c.derive_lines.new.sink in
    let mid_2 = g.T.StepSink.state c.derive_lines-2.new.sink in
    body_stopped (narrow_form c.args.node.now) old mid c.in_ok-derive_lines.ensures.hands c.in_ok-derive_lines.ensures.next mid_2 c.in_ok-derive_lines-2.ensures.hands c.in_ok-derive_lines-2.ensures.next c.next_id-next.result c.next_id-middle.result c.next_id-next.ensures c.next_id-middle.ensures
    (c.others.result, c.others-2.result) (λ k. (c.others.ensures k, c.others-2.ensures k)) c.from_residual-in_err-derive_claims.result _ (g.T.StepSink.state c.derive_claims.new.sink) c.from_residual-in_err-derive_claims.ensures.1 c.in_err-derive_claims.ensures

pub derive_deletion-requires-clause-few : goal.derive_deletion-requires-clause-few
derive_deletion-requires-clause-few g c =
    let n = c.args.node.now in
    let mid_2 = g.T.StepSink.state c.derive_lines-2.new.sink in
    omega (
      arith,
      c.requires.room,
      c.in_ok-derive_lines.ensures.next,
      c.in_ok-derive_lines-2.ensures.next,
      claims_counted n c.others.result c.others-2.result,
      c.in_ok-derive_claims.ensures.ids,
      claims-ids mid_2.next (joint_claims n c.others.result c.others-2.result),
    )

pub returns : goal.returns
returns g c =
    let old = g.T.StepSink.state c.args.sink.now in
    let mid = g.T.StepSink.state c.derive_lines.new.sink in
    let mid_2 = g.T.StepSink.state c.derive_lines-2.new.sink in
    form_handed (narrow_form c.args.node.now) old mid c.in_ok-derive_lines.ensures.hands c.in_ok-derive_lines.ensures.next mid_2 c.in_ok-derive_lines-2.ensures.hands c.in_ok-derive_lines-2.ensures.next c.next_id-next.result c.next_id-middle.result c.next_id-next.ensures c.next_id-middle.ensures
    (c.others.result, c.others-2.result) (λ k. (c.others.ensures k, c.others-2.ensures k)) (g.T.StepSink.state c.derive_claims.new.sink) c.in_ok-derive_claims.ensures c.derive_deletion.result (g.T.StepSink.state c.derive_deletion.new.sink) c.next_id-end.result c.next_id-end.ensures c.derive_deletion.ensures
