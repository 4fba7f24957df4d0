use Rattle.pb_family.proofs.Deriving.{steps_lack_first}
use Rattle.pb_counter.proofs.row.Row.derive_row_deleted.Goals as goal

pub returns-in_err-deleted : goal.returns-in_err-deleted
returns-in_err-deleted g c = steps_lack_first _ (g.T.StepSink.state c.args.sink.now) c.from_residual.result c.from_residual.ensures.1
