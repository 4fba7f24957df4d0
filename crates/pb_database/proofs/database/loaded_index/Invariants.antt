use Rattle.std.proofs.Common.{take}
use Rattle.pb_database.specs.inner.Slots.{placed_from}
use Rattle.pb_database.specs.inner.Indexed.{IsIndexed}
use Rattle.pb_database.proofs.database.loaded_index.Given as goal

abbrev pub invariant-loop-place : goal.invariant-loop-place
invariant-loop-place l = IsIndexed l.original (placed_from 0 (take l.place l.loaded)) l.lists.items
