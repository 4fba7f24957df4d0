use Rattle.pb_family.proofs.Deriving.{steps_lack_first}
use Rattle.pb_counter.proofs.first_row.FirstRow.derive_total.Goals as goal

pub returns-in_err-ids : goal.returns-in_err-ids
returns-in_err-ids g c = steps_lack_first _ (g.T.StepSink.state c.args.sink.now) c.from_residual.result c.from_residual.ensures.1
