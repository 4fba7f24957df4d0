use Rattle.pb_database.specs.declared.slots.Slot.{Slot}
use Rattle.pb_database.proofs.SlotLemmas.{pushed_more}
use Rattle.pb_database.proofs.apart.push_slots.Goals as goal

pub loop-slot-preserved : goal.loop-slot-preserved
loop-slot-preserved c =
    pushed_more (λ (s : Slot). s.constraint) c.args.list.now c.loop-slot.list c.push_slot.new.list c.args.slots.now c.loop-slot.slot-index c.slot-item.result c.slot-item.result c.loop-slot-test.true c.slot-item.is c.loop-slot.invariant c.in_ok-push_slot.ensures
