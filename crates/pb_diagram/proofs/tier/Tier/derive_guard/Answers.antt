use Rattle.std.proofs.Common.{◌≡◌, ◌∙◌, ap, arith}
use Rattle.pb_norm.specs.Constraints.{weight, weights}
use Rattle.pb_family.specs.Derivations.{meant}
use Rattle.pb_family.proofs.Deriving.{steps_lack_first, steps_same}
use Rattle.pb_diagram.specs.Guards.{guard}
use Rattle.pb_diagram.specs.inner.Tiers.{rung_in}
use Rattle.pb_diagram.proofs.GuardedHanding.{guard-weight, pushed_first}
use Rattle.pb_diagram.proofs.tier.Tier.derive_guard.Goals as goal

pub returns-in_err-push_guard : goal.returns-in_err-push_guard
returns-in_err-push_guard g c = steps_lack_first _ (g.T.StepSink.state c.args.sink.now) c.from_residual.result c.from_residual.ensures.1

pub derive_reification-requires : goal.derive_reification-requires
derive_reification-requires g c =
    let t = c.args.self.now in
    let r = rung_in t in
    let is : weights c.as_slice.result.now ≡ (guard 0 r).sum = ap weights c.as_slice.ensures.value ∙ pushed_first c.in_ok-push_guard.ensures (ap weights c.new-terms.ensures.items) in
    record { light = omega (arith, ap weight is, guard-weight 0 r t.level.up t.level.rise, c.last_top-least.ensures, t.light, t.ends, t.next_ends); few = c.requires.few }

pub returns : goal.returns
returns g c =
    let t = c.args.self.now in
    let r = rung_in t in
    let old = g.T.StepSink.state c.args.sink.now in
    let is : weights c.as_slice.result.now ≡ (guard 0 r).sum = ap weights c.as_slice.ensures.value ∙ pushed_first c.in_ok-push_guard.ensures (ap weights c.new-terms.ensures.items) in
    steps_same c.derive_reification.result _ _ old (g.T.StepSink.state c.derive_reification.new.sink) (λ i. meant old.next c.args.guard (is i) (c.last_top-least.ensures i)) c.derive_reification.ensures
