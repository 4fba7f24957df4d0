use Rattle.std.proofs.Common.{◌≡◌, take}
use Rattle.pb_database.specs.inner.Slots.{listed_slots}
use Rattle.pb_database.proofs.slots.listed.Given as goal

abbrev pub invariant-loop-id : goal.invariant-loop-id
invariant-loop-id l = l.list.items ≡ listed_slots l.slots (take l.id-index l.ids)
