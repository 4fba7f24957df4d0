use Rattle.std.proofs.Common.{arith}
use Rattle.pb_steps.proofs.Shorts.{mark_here}
use Rattle.pb_steps.proofs.short.mark_at.Goals as goal

pub returns-then-byte-mark : goal.returns-then-byte-mark
returns-then-byte-mark c = λ ends. mark_here c.args.mark c.args.left.now c.in-32.len_at_least (omega arith) (omega arith) c.requires (c.ends_at.ensures ends)
