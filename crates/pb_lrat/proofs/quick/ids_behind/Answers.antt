use Rattle.std.proofs.Common.{arith}
use Rattle.pb_lrat.proofs.QuickLines.{ids-end}
use Rattle.pb_lrat.proofs.quick.ids_behind.Goals as goal

pub returns-then-count-left-clause-spelled : goal.returns-then-count-left-clause-spelled
returns-then-count-left-clause-spelled c = ids-end c.args.left.now c.in_ok-ids.ids c.in_ok-ids.count c.in_ok-ids.ensures.spells (c.mark_at.ensures c.if-mark_at.true) (omega arith)
