use Rattle.std.proofs.Common.{◌≡◌, List, Option, map, cond, length, subst, arith}
use Rattle.std.proofs.lemmas.List.{take_all}
use Rattle.pb_base.specs.declared.literal.Lit.{Lit}
use Rattle.pb_norm.specs.Constraints.{Constraint}
use Rattle.pb_unit.specs.States.{placed}
use Rattle.pb_unit.specs.inner.Slots.{slot_at}
use Rattle.pb_unit.proofs.Slotting.{put_view, put_slots}
use Rattle.pb_unit.proofs.places.Places.put.Goals as goal

pub invariant_of-self : goal.invariant_of-self
invariant_of-self c =
    let lits : List Lit = c.self.inside.lits.items in
    put_slots c.set_slot.result lits lits c.self.inside.slots.items c.set_slot.new.slots.items c.args.place c.in-Some.slot (take_all (length lits) lits (omega arith)) c.self.invariant (c.in-Some.ensures (length lits) lits).0 c.set_slot.ensures.set c.set_slot.ensures.refused

pub returns-in-Some : goal.returns-in-Some
returns-in-Some c =
    let lits : List Lit = c.self.inside.lits.items in
    subst (λ (ps : List (Option Constraint)). map (slot_at lits) c.set_slot.new.slots.items ≡ cond c.set_slot.result (placed c.args.place c.args.constraint ps) ps) c.self.view_is
    (put_view c.set_slot.result lits lits c.self.inside.slots.items c.set_slot.new.slots.items c.args.place c.in-Some.slot c.args.constraint (take_all (length lits) lits (omega arith)) c.self.invariant (c.in-Some.ensures (length lits) lits).1 c.set_slot.ensures.set c.set_slot.ensures.refused)
