use Rattle.pb_database.proofs.SlotLemmas.{placed_more}
use Rattle.pb_database.proofs.database.loaded_slots.Goals as goal

pub loop-place-preserved : goal.loop-place-preserved
loop-place-preserved c =
    placed_more c.args.loaded.now c.loop-place.place c.index-loaded-place.result c.in_ok-copy.copy c.loop-place.slots.items c.push.new.slots.items c.loop-place-test.true c.index-loaded-place.is c.in_ok-copy.ensures c.loop-place.invariant c.in_ok-push.ensures.ok
