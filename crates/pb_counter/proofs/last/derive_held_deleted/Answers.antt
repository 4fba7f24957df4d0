use Rattle.pb_family.proofs.Deriving.{steps_lack_first}
use Rattle.pb_counter.proofs.last.derive_held_deleted.Goals as goal

pub returns-in_err-held : goal.returns-in_err-held
returns-in_err-held g c = steps_lack_first _ (g.T.StepSink.state c.args.sink.now) c.from_residual.result c.from_residual.ensures.1
