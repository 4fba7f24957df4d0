use Rattle.std.proofs.Common.{sym, ◌∙◌}
use Rattle.pb_adder.proofs.RowSteps.{row_at_even, row_at_none, row_at_odd}
use Rattle.pb_adder.proofs.comparator.row_at.Goals as goal

pub returns-then-bound-eq0 : goal.returns-then-bound-eq0
returns-then-bound-eq0 c = c.row_of.ensures ∙ row_at_even c.args.first c.args.bound c.in-Some.wire c.args.end.now c.args.above.now c.in-Some.is c.if-bound-eq0.true

pub returns-else-bound-eq0 : goal.returns-else-bound-eq0
returns-else-bound-eq0 c = sym (row_at_odd c.args.first c.args.bound c.in-Some.wire c.args.end.now c.args.above.now c.in-Some.is c.if-bound-eq0.false)

pub returns-in-None : goal.returns-in-None
returns-in-None c = sym (row_at_none c.args.first c.args.bound c.args.end.now c.args.above.now c.in-None.is)
