use Rattle.std.proofs.Common.{◌∙◌, arith}
use Rattle.pb_family.proofs.Deriving.{steps_lack_first, steps_same}
use Rattle.pb_totalizer.proofs.JointHanding.{meanings_pieces, inputs_weigh}
use Rattle.pb_totalizer.proofs.joint_meanings.derive_meanings.Goals as goal

pub returns-in_err-inputs : goal.returns-in_err-inputs
returns-in_err-inputs g c = steps_lack_first _ (g.T.StepSink.state c.args.sink.now) c.from_residual.result c.from_residual.ensures.1

pub invariant_of-meanings : goal.invariant_of-meanings
invariant_of-meanings g c =
    let n = c.args.node.now in
    record { few = omega (arith, inputs_weigh n c.as_slice.result.now (c.as_slice.ensures.value ∙ c.in_ok-inputs.ensures), n.left_within, n.right_within, n.few) }

pub returns : goal.returns
returns g c =
    let old = g.T.StepSink.state c.args.sink.now in
    steps_same c.derive_pieces.result _ _ old (g.T.StepSink.state c.derive_pieces.new.sink) (meanings_pieces c.args.node.now c.as_slice.result.now (c.as_slice.ensures.value ∙ c.in_ok-inputs.ensures) old.next) c.derive_pieces.ensures
