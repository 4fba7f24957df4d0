use Rattle.std.proofs.Common.{[], ◌∷◌, ap}
use Rattle.pb_steps.specs.declared.step.Step.{Step}
use Rattle.pb_family.proofs.Deriving.{steps_lack_first, steps_same}
use Rattle.pb_family.proofs.line.derive_line.Goals as goal

pub returns-in_err-step : goal.returns-in_err-step
returns-in_err-step g c = steps_lack_first _ (g.T.StepSink.state c.args.sink.now) c.from_residual.result c.from_residual.ensures.1

pub returns : goal.returns
returns g c =
    steps_same c.step.result _ _ (g.T.StepSink.state c.args.sink.now) (g.T.StepSink.state c.step.new.self) (ap (λ (s : Step). s ∷ []) c.in_ok-step.ensures) c.step.ensures.hands
