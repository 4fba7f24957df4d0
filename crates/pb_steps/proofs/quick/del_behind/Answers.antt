use Rattle.std.proofs.Common.{arith}
use Rattle.pb_steps.proofs.ShortLines.{del-says}
use Rattle.pb_steps.proofs.quick.del_behind.Goals as goal

pub returns-then-len-gt0 : goal.returns-then-len-gt0
returns-then-len-gt0 c = del-says c.args.left.now c.in_ok-ids.ids c.in_ok-ids.count c.in_ok-ids.ensures.spells (omega arith) c.in_ok-ids.ensures.ids (omega arith)
