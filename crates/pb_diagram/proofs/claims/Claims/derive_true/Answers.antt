use Rattle.std.proofs.Common.{◌-◌, ◌∙◌, ℕ, refl, sym, subst, ap, arith}
use Rattle.pb_norm.specs.Constraints.{weighted, weights}
use Rattle.pb_family.proofs.Deriving.{steps_same}
use Rattle.pb_diagram.specs.DiagramSteps.{child_id}
use Rattle.pb_diagram.specs.inner.Links.{HasPlace}
use Rattle.pb_diagram.specs.inner.NodesAt.{below_at}
use Rattle.pb_diagram.proofs.NodeSteps.{true_full, true_some}
use Rattle.pb_diagram.proofs.claims.Claims.derive_true.Goals as goal

pub returns-then-node-coef : goal.returns-then-node-coef
returns-then-node-coef g c =
    let old = g.T.StepSink.state c.args.sink.now in
    steps_same c.derive_claim.result _ _ old (g.T.StepSink.state c.derive_claim.new.sink)
    (true_full (weighted c.args.self.now.layer.term.now) (weights c.args.self.now.layer.rest.now) c.args.self.now.layer.next.now c.args.self.now.after c.args.self.now.id c.args.place c.args.node old.next _ refl (omega (arith, c.if-node-coef.true, c.weight-coef.ensures))) c.derive_claim.ensures

pub returns : goal.returns
returns g c =
    let old = g.T.StepSink.state c.args.sink.now in
    let under = c.child-under.ensures ∙ ap (λ (n : ℕ). child_id (below_at c.args.self.now.layer.next.now c.args.self.now.after) (c.args.node.low - n)) c.weight-coef.ensures in
    steps_same c.derive_claim-2.result _ _ old (g.T.StepSink.state c.derive_claim-2.new.sink)
    (true_some (weighted c.args.self.now.layer.term.now) (weights c.args.self.now.layer.rest.now) c.args.self.now.layer.next.now c.args.self.now.after c.args.self.now.id c.args.place c.args.node old.next _ _ refl under (omega (arith, c.if-node-coef.false, c.weight-coef.ensures))) c.derive_claim-2.ensures

pub child-under-requires : goal.child-under-requires
child-under-requires g c =
    subst (λ (n : ℕ). HasPlace c.args.self.now.layer.next.now (c.args.node.low - n)) (sym c.weight-coef.ensures) (c.requires.held (omega (arith, c.if-node-coef.false, c.weight-coef.ensures)))
