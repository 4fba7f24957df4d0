use Rattle.std.proofs.Common.{◌≡◌, take}
use Rattle.pb_database.specs.inner.Slots.{placed_from}
use Rattle.pb_database.proofs.database.loaded_slots.Given as goal

abbrev pub invariant-loop-place : goal.invariant-loop-place
invariant-loop-place l = l.slots.items ≡ placed_from 0 (take l.place l.loaded)
