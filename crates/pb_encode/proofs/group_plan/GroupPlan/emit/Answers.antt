use Rattle.std.proofs.Common.{ap, subst, arith}
use Rattle.pb_encode.specs.inner.GroupPlans.{plan_fresh, IsPlanBelow}
use Rattle.pb_encode.proofs.group_plan.GroupPlan.emit.Goals as goal

pub emit-requires : goal.emit-requires
emit-requires g c = record { original = subst (IsPlanBelow c.args.first) c.in-Alone.is c.requires.original; low = c.requires.low; fits = omega (arith, c.requires.fits, ap plan_fresh c.in-Alone.is) }
