use Rattle.std.proofs.Common.{◌∙◌, sym}
use Rattle.pb_unit.proofs.Slotting.{at_read}
use Rattle.pb_unit.proofs.places.Places.room.Goals as goal

pub room_in-requires-clause-narrow : goal.room_in-requires-clause-narrow
room_in-requires-clause-narrow c = λ d at. c.requires d (sym (at_read c.deref-2.ensures.value c.deref.ensures.value c.self.view_is c.args.place) ∙ at)

pub returns : goal.returns
returns c = λ d at. c.room_in.ensures d (at_read c.deref-2.ensures.value c.deref.ensures.value c.self.view_is c.args.place ∙ at)
