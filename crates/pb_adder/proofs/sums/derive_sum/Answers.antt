use Rattle.std.proofs.Common.{[], ◌∷◌, ap}
use Rattle.pb_steps.specs.declared.step.Step.{Step}
use Rattle.pb_steps.specs.declared.step.Step.TheVariants.{Pol}
use Rattle.pb_family.proofs.Deriving.{steps_lack_first, steps_same}
use Rattle.pb_adder.specs.AdderSteps.{sum_ops}
use Rattle.pb_adder.proofs.sums.derive_sum.Goals as goal

pub returns-in_err-step : goal.returns-in_err-step
returns-in_err-step g c = steps_lack_first _ (g.T.StepSink.state c.args.sink.now) c.from_residual.result c.from_residual.ensures.1

pub returns : goal.returns
returns g c =
    steps_same c.step.result (c.in_ok-step.step ∷ []) (Pol (sum_ops c.args.block.id c.args.block.levels.now c.args.running) ∷ []) (g.T.StepSink.state c.args.sink.now) (g.T.StepSink.state c.step.new.self)
    (ap (λ (s : Step). s ∷ []) c.in_ok-step.ensures) c.step.ensures.hands
