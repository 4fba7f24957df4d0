use Rattle.std.proofs.Common.{ℕ, ap, arith}
use Rattle.pb_family.proofs.Deriving.{steps_same}
use Rattle.pb_diagram.specs.inner.Parts.{off_steps}
use Rattle.pb_diagram.specs.inner.Tiers.{node_at}
use Rattle.pb_diagram.proofs.GuardedOps.{node_at_is}
use Rattle.pb_diagram.proofs.GuardedTiers.{on_in_next}
use Rattle.pb_diagram.proofs.tier.Tier.derive_off_at.Goals as goal

pub derive_off-requires : goal.derive_off-requires
derive_off-requires g c =
    let t = c.args.self.now in
    record { on = on_in_next t.coef t.nodes.now t.next.now c.args.place (node_at t.nodes.now c.args.place) (omega arith) (node_at_is t.nodes.now c.args.place (omega arith)) t.level; few = c.requires.few }

pub returns : goal.returns
returns g c =
    let t = c.args.self.now in
    let old = g.T.StepSink.state c.args.sink.now in
    let n = node_at t.nodes.now c.args.place in
    steps_same c.derive_off.result _ _ old (g.T.StepSink.state c.derive_off.new.sink) (ap (λ (f : ℕ). off_steps t.lit.now t.after f n.off n.on old.next) c.forward.ensures) c.derive_off.ensures
