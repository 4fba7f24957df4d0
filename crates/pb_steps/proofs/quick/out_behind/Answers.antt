use Rattle.std.proofs.Common.{arith}
use Rattle.pb_steps.proofs.ShortLines.{out-says}
use Rattle.pb_steps.proofs.quick.out_behind.Goals as goal

pub returns-then-count-left : goal.returns-then-count-left
returns-then-count-left c = out-says c.args.left.now c.in_ok-id.id c.in_ok-id.count c.in_ok-id.ensures.short (omega arith) c.in_ok-id.ensures.id
