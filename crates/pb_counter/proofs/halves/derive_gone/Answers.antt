use Rattle.pb_family.proofs.Deriving.{steps_lack_first}
use Rattle.pb_counter.proofs.halves.derive_gone.Goals as goal

pub returns-in_err-all : goal.returns-in_err-all
returns-in_err-all g c = steps_lack_first _ (g.T.StepSink.state c.args.sink.now) c.from_residual.result c.from_residual.ensures.1
