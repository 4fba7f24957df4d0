use Rattle.std.proofs.Common.{arith}
use Rattle.pb_diagram.proofs.GuardedLevels.{fresh_is, orders_are}
use Rattle.pb_diagram.proofs.guarded.Guarded.orders.Goals as goal

pub overflow_sub-below : goal.overflow_sub-below
overflow_sub-below c = omega (arith, fresh_is c.args.self.now)

pub returns : goal.returns
returns c = orders_are c.args.self.now
