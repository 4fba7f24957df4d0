use Rattle.std.proofs.Common.{◌∙◌, ap}
use Rattle.pb_diagram.proofs.GuardedTiers.{top_in, top_in_last}
use Rattle.pb_diagram.proofs.tier.last_top.Goals as goal

pub returns-in-Some : goal.returns-in-Some
returns-in-Some c = ap top_in c.in-Some.ensures.value ∙ top_in_last c.args.nodes.now
