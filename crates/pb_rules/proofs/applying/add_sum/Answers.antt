use Rattle.std.proofs.Common.{sym, subst}
use Rattle.pb_steps.specs.declared.step.Step.TheVariants.{Pol}
use Rattle.pb_steps.specs.Allowed.{Allowed}
use Rattle.pb_rules.proofs.applying.add_sum.Goals as goal

pub returns-in_ok-id-in-Ok-clause-allowed : goal.returns-in_ok-id-in-Ok-clause-allowed
returns-in_ok-id-in-Ok-clause-allowed c = λ clause. subst (Allowed c.args.db.now (Pol c.args.ops.now) clause) (sym (c.in_ok-id-in-Ok.ensures.ok)) (c.in-Ok.ensures.allowed clause)
