use Rattle.std.proofs.Common.{arith, ap}
use Rattle.pb_norm.specs.Constraints.{weight, weights}
use Rattle.pb_norm.proofs.Rooms.{room-le-weight}
use Rattle.pb_unit.proofs.slack.room_under.Goals as goal

pub room-requires : goal.room-requires
room-requires c = omega (arith, room-le-weight c.args.held.now.lits (weights c.terms.result.now), ap weight c.terms.ensures.weights, c.terms.ensures.linear.weight_fits)
