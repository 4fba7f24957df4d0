use Rattle.std.proofs.Common.{◌∙◌}
use Rattle.pb_unit.proofs.store.unlist.Goals as goal

pub loop-term-preserved : goal.loop-term-preserved
loop-term-preserved c = record {
  counts = c.unlist_one.ensures.counts;
  alerts = λ p. c.unlist_one.ensures.alerts p ∙ c.loop-term.invariant.alerts p;
}
