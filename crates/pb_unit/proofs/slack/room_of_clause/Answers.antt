use Rattle.std.proofs.Common.{map, arith}
use Rattle.pb_norm.proofs.Rooms.{room-le-weight}
use Rattle.pb_unit.specs.inner.Slots.{unit}
use Rattle.pb_unit.proofs.slack.room_of_clause.Goals as goal

pub open_units-requires : goal.open_units-requires
open_units-requires c = omega (arith, room-le-weight c.args.held.now.lits (map unit c.args.lits.now), c.requires.narrow)
