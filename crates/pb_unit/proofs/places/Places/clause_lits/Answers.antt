use Rattle.std.proofs.Common.{◌≤◌, List, Option, arith, subst}
use Rattle.std.specs.Prelude.{sum_by}
use Rattle.pb_norm.specs.Constraints.{Constraint}
use Rattle.pb_unit.specs.declared.places.Slot.{Slot}
use Rattle.pb_unit.specs.Reads.{lit_count}
use Rattle.pb_unit.specs.inner.Slots.{slot_lits}
use Rattle.pb_unit.specs.States.{standing}
use Rattle.pb_unit.proofs.Counting.{few_lits}
use Rattle.pb_unit.proofs.places.Places.clause_lits.Goals as goal

pub returns : goal.returns
returns c =
    let counted = subst (λ (slots : List Slot). c.lits_of_slots.result ≤ sum_by slot_lits slots) c.deref.ensures.value c.lits_of_slots.ensures in
    subst (λ (ps : List (Option Constraint)). c.lits_of_slots.result ≤ lit_count (standing ps)) c.self.view_is
    (omega (arith, counted, few_lits c.self.inside.lits.items c.self.inside.slots.items c.self.invariant))
