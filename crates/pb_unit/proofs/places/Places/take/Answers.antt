use Rattle.std.proofs.Common.{◌∙◌, set, map, List, Option, None, ap}
use Rattle.std.proofs.lemmas.List.{map-set}
use Rattle.pb_norm.specs.Constraints.{Constraint}
use Rattle.pb_unit.specs.declared.places.Slot.{Slot}
use Rattle.pb_unit.specs.inner.Slots.{slot_at}
use Rattle.pb_unit.proofs.places.Places.take.Goals as goal

pub returns : goal.returns
returns c =
    let lits = c.self.inside.lits.items in
    let slots = c.self.inside.slots.items in
    map-set (slot_at lits) slots c.args.place c.replace.new.dest ∙
    (ap (λ (s : Slot). set (map (slot_at lits) slots) c.args.place (slot_at lits s)) c.replace.ensures.after ∙
    ap (λ (ps : List (Option Constraint)). set ps c.args.place None) c.self.view_is)
