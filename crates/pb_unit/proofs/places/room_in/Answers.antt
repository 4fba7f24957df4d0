use Rattle.std.proofs.Common.{◌∙◌, sym, ap, arith, Some, List, map}
use Rattle.std.proofs.lemmas.Bool.{ltb-true}
use Rattle.pb_base.specs.declared.literal.Lit.{Lit}
use Rattle.pb_norm.specs.Constraints.{Constraint}
use Rattle.pb_norm.specs.Propagation.{room}
use Rattle.pb_norm.proofs.Rooms.{room-le-weight}
use Rattle.pb_unit.specs.States.{Stands}
use Rattle.pb_unit.specs.inner.Slots.{unit, clause_of, slot_at}
use Rattle.pb_unit.proofs.Slotting.{at_slot}
use Rattle.pb_unit.proofs.Standing.{stands_one}
use Rattle.pb_unit.proofs.places.room_in.Goals as goal

clause_at : (c : goal.After-part) → Stands (map (slot_at c.args.lits.now) c.args.slots.now) c.args.place (clause_of c.part.result.now)
clause_at c =
    let e = c.in-Some-Clause.ensures.lookup in
    at_slot c.args.lits.now c.args.slots.now c.args.place c.in-Some-Clause.field-0.now (ltb-true _ _ (sym e.0)) e.1 ∙ (ap (slot_at c.args.lits.now) c.in-Some-Clause.field-0-is ∙ ap (λ (ls : List Lit). Some (clause_of ls)) (sym c.part.ensures))

pub open_units-requires : goal.open_units-requires
open_units-requires c = omega (arith, room-le-weight c.args.held.now.lits (map unit c.part.result.now), c.requires.narrow (clause_of c.part.result.now) (clause_at c))

clause_here : (c : goal.After-open_units) → Stands (map (slot_at c.args.lits.now) c.args.slots.now) c.args.place (clause_of c.part.result.now)
clause_here c =
    let e = c.in-Some-Clause.ensures.lookup in
    at_slot c.args.lits.now c.args.slots.now c.args.place c.in-Some-Clause.field-0.now (ltb-true _ _ (sym e.0)) e.1 ∙ (ap (slot_at c.args.lits.now) c.in-Some-Clause.field-0-is ∙ ap (λ (ls : List Lit). Some (clause_of ls)) (sym c.part.ensures))

pub returns-in-Some-Clause : goal.returns-in-Some-Clause
returns-in-Some-Clause c = λ d at.
    c.open_units.ensures ∙ ap (λ (x : Constraint). room c.args.held.now.lits x.terms) (stands_one (map (slot_at c.args.lits.now) c.args.slots.now) c.args.place (clause_of c.part.result.now) d (clause_here c) at)

pub returns-in-Some-General : goal.returns-in-Some-General
returns-in-Some-General c = λ d at.
    let e = c.in-Some-General.ensures.lookup in
    let here : Stands (map (slot_at c.args.lits.now) c.args.slots.now) c.args.place c.deref.result.now =
    at_slot c.args.lits.now c.args.slots.now c.args.place c.in-Some-General.field-0.now (ltb-true _ _ (sym e.0)) e.1 ∙
    (ap (slot_at c.args.lits.now) c.in-Some-General.field-0-is ∙
    ap (λ (d : Constraint). Some d) (sym c.deref.ensures)) in
    c.room_under.ensures ∙ ap (λ (x : Constraint). room c.args.held.now.lits x.terms) (stands_one (map (slot_at c.args.lits.now) c.args.slots.now) c.args.place c.deref.result.now d here at)
