use Rattle.std.proofs.Common.{arith, refl}
use Rattle.pbcnf_c.specs.Rooms.Fills.{short, whole}
use Rattle.pbcnf_c.proofs.room.fill.Goals as goal

pub returns-then-room-items : goal.returns-then-room-items
returns-then-room-items g c = short (omega arith) refl

pub returns : goal.returns
returns g c = whole (omega arith) c.put.ensures
