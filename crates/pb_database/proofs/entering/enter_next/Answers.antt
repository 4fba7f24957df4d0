use Rattle.std.proofs.Common.{◌≡◌, ◌∙◌, ◌+◌, ℕ, List, Option, Some, None, ap, sym, refl, subst, take}
use Rattle.std.specs.Prelude.{IsNone}
use Rattle.pb_norm.specs.Constraints.{Constraint}
use Rattle.pb_database.specs.declared.slots.Slot.{Slot}
use Rattle.pb_database.specs.inner.Slots.{slot_at, slot_of, database_of}
use Rattle.pb_database.specs.inner.Mirrors.{KeepsEngine}
use Rattle.pb_database.proofs.Mirroring.{mirrored-kept}
use Rattle.pb_database.proofs.Fronts.{entered-none, entered-some, same-placed, slot_of-next}
use Rattle.pb_database.proofs.entering.enter_next.Goals as goal

pub returns-in_default-clause-entered : goal.returns-in_default-clause-entered
returns-in_default-clause-entered c =
    let none : (slot_at c.args.slots.now.items c.args.next).constraint ≡ None =
    ap (λ (s : Slot). s.constraint) (sym (slot_of-next c.args.slots.now.items c.args.next)) ∙ (ap (λ (ss : List Slot). (slot_of ss (c.args.next + 1)).constraint) (sym c.deref.ensures.value) ∙ sym c.in_default.ensures) in
    entered-none c.args.engine.now.vars c.args.next c.args.slots.now.items c.args.engine.now c.requires.known none c.requires.mirrored

pub returns-clause-same : goal.returns-clause-same
returns-clause-same c = λ original vars. ap (database_of original vars) c.set_place.ensures ∙ same-placed c.args.next c.in-Some-add_short.place c.args.slots.now.items original vars

pub returns-clause-entered : goal.returns-clause-entered
returns-clause-entered c =
    let some : (slot_at c.args.slots.now.items c.args.next).constraint ≡ Some c.in-Ok.constraint =
    ap (λ (s : Slot). s.constraint) (sym (slot_of-next c.args.slots.now.items c.args.next)) ∙ (ap (λ (ss : List Slot). (slot_of ss (c.args.next + 1)).constraint) (sym c.deref.ensures.value) ∙ (sym c.in-Some.ensures ∙ ap (λ (d : Constraint). Some d) (sym c.in-Ok.ensures))) in
    entered-some c.args.engine.now.vars c.args.next c.in-Some-add_short.place c.args.slots.now.items c.set_place.new.slots.items c.args.engine.now c.add_short.new.engine c.in-Ok.constraint c.requires.known some c.set_place.ensures c.in-Some-add_short.ensures.stands.0 c.in-Some-add_short.ensures.stands.1 c.requires.mirrored

pub returns-in_default-add_short-clause-refused : goal.returns-in_default-add_short-clause-refused
returns-in_default-add_short-clause-refused c = mirrored-kept c.args.engine.now.vars (take c.args.next c.args.slots.now.items) c.args.engine.now c.add_short.new.engine c.requires.mirrored (subst (λ (o : Option ℕ). IsNone o → KeepsEngine c.args.engine.now c.add_short.new.engine) c.in_default-add_short.is c.add_short.ensures.kept refl)
