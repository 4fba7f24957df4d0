use Rattle.pb_opb.proofs.Gaps.{skips-none, skips-more}
use Rattle.pb_opb.proofs.gap.past_gap.Goals as goal

pub loop-rest-init : goal.loop-rest-init
loop-rest-init c = skips-none c.args.text.now

pub loop-rest-preserved : goal.loop-rest-preserved
loop-rest-preserved c = skips-more c.args.text.now _ _ c.loop-rest.invariant c.in-Some.ensures.skips
