use Rattle.std.proofs.Common.{◌≡◌, ◌+◌, ◌-◌, ◌*◌, ◌∙◌, ◌++◌, [], ◌∷◌, ℕ, ap, arith}
use Rattle.std.specs.Prelude.{max, min}
use Rattle.std.proofs.lemmas.Result.{on_ok_weaker}
use Rattle.pb_base.specs.declared.literal.Lit.{Lit}
use Rattle.pb_steps.specs.declared.op.PolOp.TheVariants.{Axiom}
use Rattle.pb_family.specs.Fresh.{positive_of}
use Rattle.pb_diagram.specs.Guards.{on_ops, plus_times}
use Rattle.pb_diagram.specs.inner.Tiers.{node_at}
use Rattle.pb_diagram.proofs.GuardedOps.{two_pushed}
use Rattle.pb_diagram.proofs.tier.Tier.push_on_step.Goals as goal

pub returns : goal.returns
returns c =
    let a = c.args in
    let t = c.args.self.now in
    let start = c.args.ops.now.items in
    let n : ℕ = c.saturating_sub.result in
    let m : ℕ = c.saturating_sub-2.result in
    let own_part : n ≡ min a.top a.own - a.low = omega (arith, c.saturating_sub.ensures, c.min.ensures) in
    let other_part : m ≡ a.top - max a.own a.low = omega (arith, c.saturating_sub-2.ensures, c.max.ensures) in
    let node = on_ops t.lit.now t.order (t.counts + 2 * a.place + 1) (node_at t.nodes.now a.place) in
    let here = λ (k : ℕ) (l : Lit). plus_times k (Axiom l ∷ []) in
    on_ok_weaker c.push_on_part.result
    (λ h.
    two_pushed start (here n c.node.result) (plus_times m node) c.push_literals.new.ops.items c.push_on_part.new.ops.items c.in_ok-push_literals.ensures h
    ∙ (ap (λ (k : ℕ). start ++ (here k c.node.result ++ plus_times m node)) own_part
    ∙ (ap (λ (l : Lit). start ++ (here (min a.top a.own - a.low) l ++ plus_times m node)) c.node.ensures
    ∙ ap (λ (k : ℕ). start ++ (here (min a.top a.own - a.low) (positive_of (t.var + a.place)) ++ plus_times k node)) other_part)))
    c.push_on_part.ensures
