use Rattle.std.proofs.Common.{◌≡◌, ◌+◌, ◌-◌, ◌∙◌, [], ◌∷◌, ℕ, List, ap, arith}
use Rattle.std.proofs.lemmas.Result.{IfOk-from_err}
use Rattle.pb_steps.specs.declared.op.PolOp.{PolOp}
use Rattle.pb_steps.specs.declared.op.PolOp.TheVariants.{Add, Axiom, Push}
use Rattle.pb_diagram.specs.Guards.{own_of, plus_times}
use Rattle.pb_diagram.specs.GuardedSteps.{root_goal}
use Rattle.pb_diagram.specs.inner.Parts.{root_width}
use Rattle.pb_diagram.specs.inner.Tiers.{rung_in, split_ops}
use Rattle.pb_diagram.proofs.GuardedHanding.{pushed_first}
use Rattle.pb_diagram.proofs.GuardedOps.{two_pushed}
use Rattle.pb_diagram.proofs.tier.Tier.rooted.Goals as goal

pub push_split-requires : goal.push_split-requires
push_split-requires c =
    let t = c.args.self.now in
    record { level = t.level; fits = omega (arith, c.last_top-below.ensures, c.last_top-end.ensures, t.light, t.ends, t.next_ends) }

pub returns-in_err-push_ops : goal.returns-in_err-push_ops
returns-in_err-push_ops c = IfOk-from_err _ _ c.from_residual.ensures.0

pub returns-in_err-push_more : goal.returns-in_err-push_more
returns-in_err-push_more c = IfOk-from_err _ _ c.from_residual-in_err-push_more.ensures.0

pub returns-in_err-push_split : goal.returns-in_err-push_split
returns-in_err-push_split c = IfOk-from_err _ _ c.from_residual-in_err-push_split.ensures.0

pub returns : goal.returns
returns c =
    let t = c.args.self.now in
    let r = rung_in t in
    let more = plus_times (t.coef - own_of r) (Axiom t.lit.now ∷ []) in
    let own = c.args.own in
    let before = c.args.before in
    let is = c.as_slice.ensures.value ∙ pushed_first (two_pushed c.new-goal.result.items (Push own ∷ Push before ∷ Add ∷ []) more c.push_ops.new.ops.items c.push_more.new.ops.items c.in_ok-push_ops.ensures c.in_ok-push_more.ensures) c.new-goal.ensures.items in
    let wide : t.coef + c.last_top-below.result + c.last_top-end.result + 1 ≡ root_width r = omega (arith, c.last_top-below.ensures, c.last_top-end.ensures) in
    pushed_first c.in_ok-push_split.ensures c.new-ops.ensures.items
    ∙ (ap (λ (os : List PolOp). split_ops r os (t.coef + c.last_top-below.result + c.last_top-end.result + 1)) is ∙ ap (λ (w : ℕ). split_ops r (root_goal r own before) w) wide)
