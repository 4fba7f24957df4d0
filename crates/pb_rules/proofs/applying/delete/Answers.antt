use Rattle.std.proofs.Common.{sym, subst}
use Rattle.pb_steps.specs.declared.step.Step.TheVariants.{Del}
use Rattle.pb_steps.specs.Allowed.{Allowed}
use Rattle.pb_rules.proofs.applying.delete.Goals as goal

pub returns-in-Ok-clause-allowed : goal.returns-in-Ok-clause-allowed
returns-in-Ok-clause-allowed c = λ clause. subst (Allowed c.args.db.now (Del c.args.ids.now) clause) (sym c.remove.ensures) (c.in-Ok.ensures.allowed clause)
