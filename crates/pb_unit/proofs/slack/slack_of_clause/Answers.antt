use Rattle.std.proofs.Common.{map, arith}
use Rattle.pb_norm.proofs.Rooms.{room-le-weight}
use Rattle.pb_unit.specs.inner.Slots.{unit}
use Rattle.pb_unit.proofs.slack.slack_of_clause.Goals as goal

pub above-requires-clause-left : goal.above-requires-clause-left
above-requires-clause-left c = omega (arith, room-le-weight c.args.held.now.lits (map unit c.args.lits.now), c.requires.narrow, c.room_of_clause.ensures)
