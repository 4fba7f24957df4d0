use Rattle.std.proofs.Common.{◌≡◌, take}
use Rattle.pb_database.proofs.database.copies.Given as goal

abbrev pub invariant-loop-constraint : goal.invariant-loop-constraint
invariant-loop-constraint l = l.list.items ≡ take l.constraint-index l.loaded
