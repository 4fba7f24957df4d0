use Rattle.std.proofs.Common.{◌≡◌, Bool, true, false, not, None, refl, ap, sym, ◌∙◌, List}
use Rattle.pb_model.specs.ModelLines.Symbol.{end}
use Rattle.pb_model.specs.ModelReading.{fault_at}
use Rattle.pb_model.proofs.Taking.{unbegun_fine, ended_fine, model_known}
use Rattle.pb_model.proofs.reader.Reader.finish.Goals as goal
use Rattle.pb_model.proofs.reader.Reader.finish.Goals.{else-self-via-then-self+else-not-self, else-self-via-else-self}

not_injective : (b : Bool) → not b ≡ false → b ≡ true
not_injective true e = refl
not_injective false e = cc

pub returns : goal.returns
returns c = λ vars ss k.
    let fine : fault_at ss (end c.args.place) ≡ None =
    elim c.else-self.branch [
      | else-self-via-then-self+else-not-self w ↦ ended_fine ss c.args.place (sym k.begun ∙ w.if-self.true) (sym k.ended ∙ not_injective c.args.self.ended w.if-not-self.false)
      | else-self-via-else-self w ↦ unbegun_fine ss c.args.place (sym k.begun ∙ w.if-self.false)
    ] in
    (fine, ap (λ (values : List Bool). record { says = c.args.self.says; values = values }) c.values.ensures ∙ model_known vars ss c.args.place c.args.self k c.args.self.listing.each_listed)
