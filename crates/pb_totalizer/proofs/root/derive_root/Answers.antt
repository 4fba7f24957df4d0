use Rattle.pb_family.proofs.Deriving.{steps_lack_first}
use Rattle.pb_totalizer.proofs.root.derive_root.Goals as goal

pub returns-in_err-step : goal.returns-in_err-step
returns-in_err-step g c = steps_lack_first _ (g.T.StepSink.state c.args.sink.now) c.from_residual.result c.from_residual.ensures.1
