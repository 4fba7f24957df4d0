use Rattle.std.proofs.Common.{refl, arith}
use Rattle.pb_norm.specs.Constraints.{weighted}
use Rattle.pb_family.proofs.Deriving.{steps_same}
use Rattle.pb_diagram.proofs.NodeSteps.{false_none, false_some}
use Rattle.pb_diagram.proofs.claims.Claims.derive_false.Goals as goal

pub returns-then-self-node : goal.returns-then-self-node
returns-then-self-node g c =
    false_none (weighted c.args.self.now.layer.term.now) c.args.self.now.layer.whole c.args.self.now.layer.next.now c.args.self.now.after c.args.self.now.id c.args.place c.args.node (g.T.StepSink.state c.args.sink.now) c.if-self-node.true

pub returns : goal.returns
returns g c =
    let old = g.T.StepSink.state c.args.sink.now in
    steps_same c.derive_claim.result _ _ old (g.T.StepSink.state c.derive_claim.new.sink)
    (false_some (weighted c.args.self.now.layer.term.now) c.args.self.now.layer.whole c.args.self.now.layer.next.now c.args.self.now.after c.args.self.now.id c.args.place c.args.node old.next _ _ refl c.child-under.ensures (omega arith)) c.derive_claim.ensures
