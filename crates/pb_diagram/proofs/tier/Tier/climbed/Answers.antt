use Rattle.std.proofs.Common.{◌-◌, ◌∙◌, ◌++◌, [], ◌∷◌, List, pos, ap, arith}
use Rattle.std.proofs.lemmas.Result.{IfOk-from_err}
use Rattle.pb_steps.specs.declared.op.PolOp.{PolOp}
use Rattle.pb_steps.specs.declared.op.PolOp.TheVariants.{Add, Axiom, Mul, Push}
use Rattle.pb_diagram.specs.Guards.{own_of, plus_times}
use Rattle.pb_diagram.specs.inner.Tiers.{rung_in}
use Rattle.pb_diagram.proofs.GuardedHanding.{pushed_first}
use Rattle.pb_diagram.proofs.GuardedOps.{three_pushed}
use Rattle.pb_diagram.proofs.tier.Tier.climbed.Goals as goal

pub times-factor-requires : goal.times-factor-requires
times-factor-requires c = record { fits = omega (arith, c.last_top.ensures, c.args.self.now.ends) }

pub returns-in_err-push_ops : goal.returns-in_err-push_ops
returns-in_err-push_ops c = IfOk-from_err _ _ c.from_residual.ensures.0

pub returns-in_err-push_more : goal.returns-in_err-push_more
returns-in_err-push_more c = IfOk-from_err _ _ c.from_residual-in_err-push_more.ensures.0

pub returns-in_err-push_ops-2 : goal.returns-in_err-push_ops-2
returns-in_err-push_ops-2 c = IfOk-from_err _ _ c.from_residual-in_err-push_ops-2.ensures.0

pub returns : goal.returns
returns c =
    let t = c.args.self.now in
    let a = c.args in
    let factor = c.times-factor.ensures ∙ ap (λ k. Mul (pos k)) c.last_top.ensures in
    let more = plus_times (t.coef - own_of (rung_in t)) (Axiom t.lit.now ∷ []) in
    let end : List PolOp = Push a.before ∷ Add ∷ [] in
    pushed_first (three_pushed c.new-ops.result.items (Push a.forward ∷ Push a.guarded ∷ c.times-factor.result ∷ Add ∷ []) more end c.push_ops.new.ops.items c.push_more.new.ops.items c.push_ops-2.new.ops.items c.in_ok-push_ops.ensures c.in_ok-push_more.ensures c.in_ok-push_ops-2.ensures) c.new-ops.ensures.items
    ∙ ap (λ (op : PolOp). Push a.forward ∷ Push a.guarded ∷ op ∷ Add ∷ (more ++ end)) factor
