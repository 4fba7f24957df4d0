use Rattle.pb_lrat.proofs.QuickLines.{addition-tells}
use Rattle.pb_lrat.proofs.quick.addition_behind.Goals as goal

pub returns : goal.returns
returns c = addition-tells c.args.vars c.args.id c.args.left.now c.in_ok-clause.clause c.in-Some.hints c.in_ok-clause.count c.in_ok-clause.ensures.spells (c.mark_at.ensures c.if-not-mark_at.false) (rw c.in-Some.is at c.in_ok-hints.ensures.spelled) c.requires.id c.in_ok-clause.ensures.each (rw c.in-Some.is at c.in_ok-hints.ensures.each)
