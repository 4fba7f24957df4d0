use Rattle.std.proofs.Common.{arith}
use Rattle.pb_unit.specs.inner.Slots.{IsAloneUpTo}
use Rattle.pb_unit.proofs.Alone.{alone-rises}
use Rattle.pb_unit.proofs.UpTo.{most_all, most_next}
use Rattle.pb_unit.proofs.highest.greatest_of_slots.Goals as goal

pub loop-slot-preserved : goal.loop-slot-preserved
loop-slot-preserved c =
    let next = c.greatest_alone-most.ensures in
    most_next IsAloneUpTo alone-rises c.args.slots.now c.loop-slot.slot-index c.slot-item.result (omega arith) c.slot-item.is c.loop-slot.invariant next.no_less next.few next.within

pub returns-clause-within : goal.returns-clause-within
returns-clause-within c = most_all IsAloneUpTo c.args.slots.now c.loop-slot.slot-index (omega arith) c.loop-slot.invariant
