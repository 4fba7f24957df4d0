use Rattle.std.proofs.Common.{[], ◌∷◌, pos}
use Rattle.std.proofs.lemmas.Result.{IfOk-from_err}
use Rattle.pb_steps.specs.declared.op.PolOp.TheVariants.{Div, Push}
use Rattle.pb_diagram.specs.GuardedSteps.{spared_off}
use Rattle.pb_diagram.proofs.GuardedHanding.{pushed_first}
use Rattle.pb_diagram.proofs.GuardedOps.{three_pushed}
use Rattle.pb_diagram.proofs.tier.Tier.on_clause.Goals as goal

pub returns-in_err-push_ops : goal.returns-in_err-push_ops
returns-in_err-push_ops c = IfOk-from_err _ _ c.from_residual.ensures.0

pub returns-in_err-push_spared_off : goal.returns-in_err-push_spared_off
returns-in_err-push_spared_off c = IfOk-from_err _ _ c.from_residual-in_err-push_spared_off.ensures.0

pub returns-in_err-push_ops-2 : goal.returns-in_err-push_ops-2
returns-in_err-push_ops-2 c = IfOk-from_err _ _ c.from_residual-in_err-push_ops-2.ensures.0

pub returns : goal.returns
returns c =
    let t = c.args.self.now in
    pushed_first (three_pushed c.new-ops.result.items (Push c.args.forward ∷ []) (spared_off t.after c.args.off c.args.on) (Div (pos 3) ∷ []) c.push_ops.new.ops.items c.push_spared_off.new.ops.items c.push_ops-2.new.ops.items c.in_ok-push_ops.ensures c.in_ok-push_spared_off.ensures c.in_ok-push_ops-2.ensures) c.new-ops.ensures.items
