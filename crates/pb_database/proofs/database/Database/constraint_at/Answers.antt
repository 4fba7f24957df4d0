use Rattle.std.proofs.Common.{◌∙◌, ap, sym, List}
use Rattle.pb_steps.specs.Database.{constraint_at}
use Rattle.pb_database.specs.declared.slots.Slot.{Slot}
use Rattle.pb_database.specs.inner.Slots.{slot_of}
use Rattle.pb_database.proofs.SlotLemmas.{constraint_at-slot}
use Rattle.pb_database.proofs.database.Database.constraint_at.Goals as goal

pub returns-clause-found : goal.returns-clause-found
returns-clause-found c =
    c.constraint_at.ensures ∙ (ap (λ (ss : List Slot). (slot_of ss c.args.id).constraint) c.deref.ensures.value ∙
    (sym (constraint_at-slot c.args.id c.self.inside.slots.items) ∙ λ i. constraint_at (c.self.view_is i).live c.args.id))
