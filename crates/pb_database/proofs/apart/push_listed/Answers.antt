use Rattle.std.proofs.Common.{ℕ, get_or, refl}
use Rattle.pb_database.specs.inner.Slots.{slot_of}
use Rattle.pb_database.proofs.SlotLemmas.{pushed_more}
use Rattle.pb_database.proofs.apart.push_listed.Goals as goal

pub loop-id-preserved : goal.loop-id-preserved
loop-id-preserved c =
    pushed_more (λ (id : ℕ). (slot_of c.args.slots.now id).constraint) c.args.list.now c.loop-id.list c.push_at.new.list c.args.ids.now c.loop-id.id-index (get_or c.args.ids.now c.loop-id.id-index 0) 0 c.loop-id-test.true refl c.loop-id.invariant c.in_ok-push_at.ensures
