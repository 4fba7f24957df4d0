use Rattle.pb_lrat.proofs.QuickLines.{deletion-tells}
use Rattle.pb_lrat.proofs.quick.deletion_behind.Goals as goal

pub returns : goal.returns
returns c = deletion-tells c.args.vars c.args.id c.args.left.now c.in-Some.ids c.requires.mark (rw c.in-Some.is at c.in_ok-ids.ensures.spelled) c.requires.id (rw c.in-Some.is at c.in_ok-ids.ensures.each)
