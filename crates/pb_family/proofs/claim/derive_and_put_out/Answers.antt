use Rattle.std.proofs.Common.{◌≡◌, [], ◌∷◌}
use Rattle.std.proofs.lemmas.Result.{IfOk-at_ok}
use Rattle.pb_steps.specs.declared.step.Step.TheVariants.{Out}
use Rattle.pb_family.proofs.Deriving.{steps_lack_first, steps_same}
use Rattle.pb_family.proofs.claim.derive_and_put_out.Goals as goal

pub returns-in_err-step : goal.returns-in_err-step
returns-in_err-step g c = λ shown is. steps_lack_first _ (g.T.StepSink.state c.args.sink.now) c.from_residual.result c.from_residual.ensures.1

pub returns : goal.returns
returns g c = λ shown is.
    let same = IfOk-at_ok (λ step. step ≡ shown) c.in_ok-step.was is in
    steps_same c.derive_steps.result _ _ (g.T.StepSink.state c.args.sink.now) (g.T.StepSink.state c.derive_steps.new.sink) (λ i. same i ∷ Out (c.next_id-id.ensures i) ∷ []) c.derive_steps.ensures
