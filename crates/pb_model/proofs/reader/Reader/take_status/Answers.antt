use Rattle.std.proofs.Common.{◌≡◌, false, ap, sym, ◌∙◌}
use Rattle.pb_model.specs.ModelLines.Symbol.{status}
use Rattle.pb_model.specs.ModelReading.{is_said}
use Rattle.pb_model.proofs.Taking.{fine_one, status_fine, unsaid, takes_status}
use Rattle.pb_model.proofs.reader.Reader.take_status.Goals as goal

pub returns : goal.returns
returns c = λ vars ss k.
    let none : is_said c.args.self.now.says ≡ false = sym c.is_said.ensures ∙ c.if-is_said.false in (
      fine_one ss (status c.args.place c.args.says) (status_fine ss c.args.place c.args.says (ap is_said (sym k.says) ∙ none)),
      takes_status vars ss c.args.place c.args.says c.args.self.now k (unsaid c.args.self.now.says none),
    )
