use Rattle.pb_lrat.proofs.QuickLines.{line-reads}
use Rattle.pb_lrat.proofs.quick.quick_line.Goals as goal

pub returns-then-mark_at : goal.returns-then-mark_at
returns-then-mark_at c = line-reads c.args.vars c.in-Some.id c.in-Some.count c.args.line.now c.deletion_behind.result c.requires c.in-Some.ensures.number c.deletion_behind.ensures

pub returns-else-mark_at : goal.returns-else-mark_at
returns-else-mark_at c = line-reads c.args.vars c.in-Some.id c.in-Some.count c.args.line.now c.addition_behind.result c.requires c.in-Some.ensures.number c.addition_behind.ensures
