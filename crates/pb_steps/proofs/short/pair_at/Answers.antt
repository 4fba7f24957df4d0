use Rattle.std.proofs.Common.{arith}
use Rattle.std.proofs.lemmas.Bool.Decides.{nat_tests}
use Rattle.pb_steps.proofs.Shorts.{pair_here}
use Rattle.pb_steps.proofs.short.pair_at.Goals as goal
use Rattle.pb_steps.proofs.short.pair_at.Goals.{then-b-first, else-b-first}

pub returns-then-c-second : goal.returns-then-c-second
returns-then-c-second c = λ ends. elim c.if-b-first.branch [ then-b-first w ↦ pair_here c.args.first c.args.second c.args.left.now c.in-32.len_at_least (omega arith) w.if-b-first.true (grind (arith, nat_tests)) c.requires.first c.requires.second (c.ends_at.ensures ends) | else-b-first w ↦ absurd (grind (arith, nat_tests)) ]
