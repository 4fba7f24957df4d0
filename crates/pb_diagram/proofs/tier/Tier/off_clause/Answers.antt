use Rattle.std.proofs.Common.{[], ◌∷◌, pos}
use Rattle.std.specs.Prelude.{Some}
use Rattle.std.proofs.lemmas.Result.{IfOk-from_err}
use Rattle.pb_steps.specs.declared.op.PolOp.TheVariants.{Div, Push, Weaken}
use Rattle.pb_diagram.specs.GuardedSteps.{spared_on}
use Rattle.pb_diagram.proofs.GuardedHanding.{pushed_first}
use Rattle.pb_diagram.proofs.GuardedOps.{three_pushed}
use Rattle.pb_diagram.proofs.tier.Tier.off_clause.Goals as goal

pub returns-in_err-push_ops : goal.returns-in_err-push_ops
returns-in_err-push_ops c = IfOk-from_err _ _ c.from_residual.ensures.0

pub returns-in_err-push_spared_on : goal.returns-in_err-push_spared_on
returns-in_err-push_spared_on c = IfOk-from_err _ _ c.from_residual-in_err-push_spared_on.ensures.0

pub returns-in_err-push_ops-2 : goal.returns-in_err-push_ops-2
returns-in_err-push_ops-2 c = IfOk-from_err _ _ c.from_residual-in_err-push_ops-2.ensures.0

pub returns : goal.returns
returns c =
    let t = c.args.self.now in
    pushed_first (three_pushed c.new-ops.result.items (Push c.args.forward ∷ Weaken t.lit.now.var ∷ []) (spared_on t.after (Some c.args.off) c.args.on) (Div (pos 3) ∷ []) c.push_ops.new.ops.items c.push_spared_on.new.ops.items c.push_ops-2.new.ops.items c.in_ok-push_ops.ensures c.in_ok-push_spared_on.ensures c.in_ok-push_ops-2.ensures) c.new-ops.ensures.items
