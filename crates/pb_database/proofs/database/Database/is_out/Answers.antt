use Rattle.std.proofs.Common.{◌∙◌, ap, sym, List}
use Rattle.pb_steps.specs.Database.{is_out}
use Rattle.pb_database.specs.declared.slots.Slot.{Slot}
use Rattle.pb_database.specs.inner.Slots.{slot_of, slot_is_out}
use Rattle.pb_database.proofs.SlotLemmas.{is_out-slot}
use Rattle.pb_database.proofs.database.Database.is_out.Goals as goal

pub returns : goal.returns
returns c =
    c.is_out.ensures ∙ (ap (λ (ss : List Slot). slot_is_out (slot_of ss c.args.id)) c.deref.ensures.value ∙
    (sym (is_out-slot c.args.id c.self.inside.slots.items) ∙ λ i. is_out (c.self.view_is i).live c.args.id))
