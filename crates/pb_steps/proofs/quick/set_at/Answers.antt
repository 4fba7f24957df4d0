use Rattle.pb_steps.proofs.ShortLines.{set-short}
use Rattle.pb_steps.proofs.quick.set_at.Goals as goal

pub returns-clause-short : goal.returns-clause-short
returns-clause-short c = set-short c.args.left.now (record { var = c.in_ok-var.var; value = c.in_ok-value.value }) c.in_ok-var.count c.in_ok-var.ensures.short (c.pair_at.ensures c.if-not-pair_at.false) c.in_ok-value.ensures
