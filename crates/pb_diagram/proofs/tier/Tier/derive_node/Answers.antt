use Rattle.std.proofs.Common.{ℕ, ap, arith}
use Rattle.pb_base.specs.declared.literal.Lit.{Lit}
use Rattle.pb_family.specs.Derivations.{meant}
use Rattle.pb_family.proofs.Deriving.{steps_same}
use Rattle.pb_diagram.specs.Guards.{child_least, child_terms}
use Rattle.pb_diagram.specs.inner.Tiers.{node_at}
use Rattle.pb_diagram.proofs.GuardedOps.{node_at_is}
use Rattle.pb_diagram.proofs.GuardedTiers.{off_in_next, on_in_next}
use Rattle.pb_diagram.proofs.tier.Tier.derive_node.Goals as goal

pub derive_over-requires : goal.derive_over-requires
derive_over-requires g c =
    let t = c.args.self.now in
    let n = node_at t.nodes.now c.args.place in
    record {
      off = off_in_next t.coef t.nodes.now t.next.now c.args.place n (omega arith) (node_at_is t.nodes.now c.args.place (omega arith)) t.level;
      on = on_in_next t.coef t.nodes.now t.next.now c.args.place n (omega arith) (node_at_is t.nodes.now c.args.place (omega arith)) t.level;
      few = c.requires.few;
    }

pub returns : goal.returns
returns g c =
    let t = c.args.self.now in
    let old = g.T.StepSink.state c.args.sink.now in
    let n = node_at t.nodes.now c.args.place in
    steps_same c.derive_over.result _ _ old (g.T.StepSink.state c.derive_over.new.sink)
    (ap (λ (v : ℕ). meant old.next v (child_terms t.lit.now t.after n.off n.on) (child_least n.off)) (ap (λ (l : Lit). l.var) c.node-var.ensures)) c.derive_over.ensures
