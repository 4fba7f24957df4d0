use Rattle.std.proofs.Common.{arith}
use Rattle.pb_steps.proofs.ShortLines.{pol-says}
use Rattle.pb_steps.proofs.quick.pol_behind.Goals as goal

pub returns-then-count-left : goal.returns-then-count-left
returns-then-count-left c = pol-says c.args.left.now c.in_ok-ops.ops c.in_ok-ops.count c.in_ok-ops.ensures.spells (omega arith) c.in_ok-ops.ensures.each
