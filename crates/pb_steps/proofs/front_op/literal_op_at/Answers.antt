use Rattle.pb_steps.proofs.ShortLines.{weaken-short}
use Rattle.pb_steps.proofs.front_op.literal_op_at.Goals as goal

pub returns-then-mark_at-clause-short : goal.returns-then-mark_at-clause-short
returns-then-mark_at-clause-short c = weaken-short c.args.left.now c.in_ok-lit.lit c.in_ok-lit.count c.in_ok-lit.ensures.short (c.mark_at.ensures c.if-mark_at.true)
