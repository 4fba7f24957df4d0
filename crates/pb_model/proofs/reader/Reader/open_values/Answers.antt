use Rattle.std.proofs.Common.{sym, ◌∙◌}
use Rattle.pb_model.specs.ModelLines.Symbol.{values}
use Rattle.pb_model.proofs.Taking.{fine_one, values_fine, takes_values}
use Rattle.pb_model.proofs.reader.Reader.open_values.Goals as goal

pub returns : goal.returns
returns c = λ vars ss k. (
  fine_one ss (values c.args.place) (values_fine ss c.args.place (sym k.ended ∙ c.if-self.false)),
  takes_values vars ss c.args.place c.args.self.now k,
)
