use Rattle.std.proofs.Common.{◌∙◌, Some, List, ap, map, subst, sym}
use Rattle.std.proofs.lemmas.Bool.{ltb-true}
use Rattle.pb_base.specs.declared.literal.Lit.{Lit}
use Rattle.pb_norm.specs.Constraints.{Constraint}
use Rattle.pb_norm.specs.Propagation.{room}
use Rattle.pb_unit.specs.States.{Stands}
use Rattle.pb_unit.specs.Steps.{IsCalm}
use Rattle.pb_unit.specs.inner.Slots.{clause_of, slot_at}
use Rattle.pb_unit.proofs.Easy.{easy_clause}
use Rattle.pb_unit.proofs.Slotting.{at_slot}
use Rattle.pb_unit.proofs.Standing.{stands_one}
use Rattle.pb_unit.proofs.places.is_easy_in.Goals as goal

pub returns-in-Some-Clause : goal.returns-in-Some-Clause
returns-in-Some-Clause c = λ easy d at.
    let e = c.in-Some-Clause.ensures.lookup in
    let held = c.args.held.now.lits in
    let clause = clause_of c.part.result.now in
    let here : Stands (map (slot_at c.args.lits.now) c.args.slots.now) c.args.place clause =
    at_slot c.args.lits.now c.args.slots.now c.args.place c.in-Some-Clause.field-0.now (ltb-true _ _ (sym e.0)) e.1 ∙ (ap (slot_at c.args.lits.now) c.in-Some-Clause.field-0-is ∙ ap (λ (ls : List Lit). Some (clause_of ls)) (sym c.part.ensures)) in
    subst (λ (x : Constraint). IsCalm (room held x.terms) held x) (stands_one (map (slot_at c.args.lits.now) c.args.slots.now) c.args.place clause d here at) (easy_clause held c.part.result.now (c.are_two_open.ensures easy))
