use Rattle.std.proofs.Common.{ℕ, ap, arith}
use Rattle.pb_family.proofs.Deriving.{steps_same}
use Rattle.pb_diagram.specs.inner.Parts.{on_steps}
use Rattle.pb_diagram.specs.inner.Tiers.{node_at}
use Rattle.pb_diagram.proofs.GuardedOps.{node_at_is}
use Rattle.pb_diagram.proofs.GuardedTiers.{off_in_next}
use Rattle.pb_diagram.proofs.tier.Tier.derive_on_at.Goals as goal

pub on_clause-requires : goal.on_clause-requires
on_clause-requires g c =
    let t = c.args.self.now in
    off_in_next t.coef t.nodes.now t.next.now c.args.place (node_at t.nodes.now c.args.place) (omega arith) (node_at_is t.nodes.now c.args.place (omega arith)) t.level

pub returns : goal.returns
returns g c =
    let t = c.args.self.now in
    let old = g.T.StepSink.state c.args.sink.now in
    let n = node_at t.nodes.now c.args.place in
    steps_same c.hand_clause.result _ _ old (g.T.StepSink.state c.hand_clause.new.sink) (ap (λ (f : ℕ). on_steps t.after f n.off n.on old.next) c.forward.ensures) (c.hand_clause.ensures _ c.on_clause.ensures)
