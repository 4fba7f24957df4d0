use Rattle.std.proofs.Common.{take}
use Rattle.pb_unit.specs.inner.Slots.{IsAloneUpTo}
use Rattle.pb_unit.proofs.UpTo.{IsMost}
use Rattle.pb_unit.proofs.highest.greatest_of_slots.Given as goal

abbrev pub invariant-loop-slot : goal.invariant-loop-slot
invariant-loop-slot l = IsMost IsAloneUpTo l.least (take l.slot-index l.slots) l.most
