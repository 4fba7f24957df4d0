use Rattle.std.proofs.Common.{◌∙◌}
use Rattle.pb_unit.proofs.Slotting.{at_read}
use Rattle.pb_unit.proofs.places.Places.is_easy.Goals as goal

pub returns : goal.returns
returns c = λ easy d at. c.is_easy_in.ensures easy d (at_read c.deref-2.ensures.value c.deref.ensures.value c.self.view_is c.args.place ∙ at)
