use Rattle.std.proofs.Common.{◌∙◌, [], ◌∷◌, ℕ, ap, arith}
use Rattle.std.proofs.lemmas.Result.{IfOk-from_err}
use Rattle.pb_steps.specs.declared.op.PolOp.TheVariants.{Push}
use Rattle.pb_diagram.specs.inner.Tiers.{rung_in, split_ops}
use Rattle.pb_diagram.proofs.GuardedHanding.{pushed_first}
use Rattle.pb_diagram.proofs.tier.Tier.guarded.Goals as goal

pub push_split-requires : goal.push_split-requires
push_split-requires c =
    let t = c.args.self.now in
    record { level = t.level; fits = omega (arith, c.guard_width.ensures, t.light, t.ends, t.next_ends) }

pub returns-in_err-push_split : goal.returns-in_err-push_split
returns-in_err-push_split c = IfOk-from_err _ _ c.from_residual.ensures.0

pub returns : goal.returns
returns c = pushed_first c.in_ok-push_split.ensures c.new-ops.ensures.items ∙ ap (λ (w : ℕ). split_ops (rung_in c.args.self.now) (Push c.args.reverse ∷ []) w) c.guard_width.ensures
