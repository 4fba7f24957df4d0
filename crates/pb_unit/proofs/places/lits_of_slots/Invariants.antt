use Rattle.std.proofs.Common.{◌≤◌, take}
use Rattle.std.specs.Prelude.{sum_by}
use Rattle.pb_unit.specs.inner.Slots.{slot_lits}
use Rattle.pb_unit.proofs.places.lits_of_slots.Given as goal

abbrev pub invariant-loop-slot : goal.invariant-loop-slot
invariant-loop-slot l = l.count ≤ sum_by slot_lits (take l.slot-index l.slots)
