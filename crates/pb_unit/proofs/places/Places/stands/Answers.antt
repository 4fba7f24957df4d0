use Rattle.std.proofs.Common.{◌∙◌, List, Option, map, ap}
use Rattle.std.specs.Prelude.{is_some}
use Rattle.pb_norm.specs.Constraints.{Constraint}
use Rattle.pb_unit.specs.declared.places.Slot.{Slot}
use Rattle.pb_unit.specs.inner.Slots.{slot_at}
use Rattle.pb_unit.specs.States.{at_place}
use Rattle.pb_unit.proofs.places.Places.stands.Goals as goal

pub returns : goal.returns
returns c = c.stands_in.ensures c.self.inside.lits.items ∙ (ap (λ (slots : List Slot). is_some (at_place (map (slot_at c.self.inside.lits.items) slots) c.args.place)) c.deref.ensures.value ∙ ap (λ (ps : List (Option Constraint)). is_some (at_place ps c.args.place)) c.self.view_is)
