use Rattle.std.proofs.Common.{◌≡◌, drop}
use Rattle.pb_desk.specs.Memory.{shelf_of}
use Rattle.pb_desk.proofs.shelf.find.Given as goal

abbrev pub invariant-loop-i : goal.invariant-loop-i
invariant-loop-i l = shelf_of (drop l.i l.shelf) l.name ≡ shelf_of l.shelf l.name
