use Rattle.std.proofs.Common.{◌≡◌, ◌∙◌, ◌++◌, ◌∷◌, [], List, Option, Some, map, cond, subst}
use Rattle.pb_norm.specs.Constraints.{Constraint}
use Rattle.pb_unit.specs.inner.Slots.{clause_of, slot_at}
use Rattle.pb_unit.proofs.Slotting.{slots_longer, push_view, push_slots}
use Rattle.pb_unit.proofs.places.Places.push_clause.Goals as goal

pub invariant_of-self : goal.invariant_of-self
invariant_of-self c =
    push_slots c.push_slot.result c.self.inside.lits.items c.lits_slot.new.lits.items c.self.inside.slots.items c.push_slot.new.slots.items c.in-Some.slot c.lits_slot.ensures.longer c.self.invariant c.in-Some.ensures.slot.0 c.push_slot.ensures

pub returns-in-Some : goal.returns-in-Some
returns-in-Some c =
    subst (λ (ps : List (Option Constraint)). map (slot_at c.lits_slot.new.lits.items) c.push_slot.new.slots.items ≡ cond c.push_slot.result (ps ++ Some (clause_of c.args.clause.now) ∷ []) ps) c.self.view_is
    (push_view c.push_slot.result c.self.inside.lits.items c.lits_slot.new.lits.items c.self.inside.slots.items c.push_slot.new.slots.items c.in-Some.slot (clause_of c.args.clause.now) c.lits_slot.ensures.longer c.self.invariant c.in-Some.ensures.slot.1 c.push_slot.ensures)

pub returns-in-None : goal.returns-in-None
returns-in-None c = slots_longer c.self.inside.lits.items c.lits_slot.new.lits.items c.self.inside.slots.items c.lits_slot.ensures.longer c.self.invariant ∙ c.self.view_is
