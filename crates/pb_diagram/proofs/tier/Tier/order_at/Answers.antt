use Rattle.std.proofs.lemmas.Result.{IfOk-from_err}
use Rattle.pb_diagram.proofs.GuardedHanding.{pushed_first}
use Rattle.pb_diagram.proofs.tier.Tier.order_at.Goals as goal

pub push_order-requires : goal.push_order-requires
push_order-requires c = record { level = c.args.self.now.level; within = c.requires.within }

pub returns-in_err-push_order : goal.returns-in_err-push_order
returns-in_err-push_order c = IfOk-from_err _ _ c.from_residual.ensures.0

pub returns : goal.returns
returns c = pushed_first c.in_ok-push_order.ensures c.new-ops.ensures.items
