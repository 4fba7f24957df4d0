use Rattle.std.proofs.Common.{◌+◌, ◌-◌, ◌∙◌, ℕ, ap, arith}
use Rattle.pb_base.specs.Literals.{negated}
use Rattle.pb_norm.specs.Constraints.{weighted}
use Rattle.pb_family.proofs.Emission.{hands_same}
use Rattle.pb_diagram.specs.Clauses.{node_at}
use Rattle.pb_diagram.proofs.LevelSteps.{true_full, true_some}
use Rattle.pb_diagram.proofs.emission.Numbered.emit_true.Goals as goal

pub returns-then-node-coef : goal.returns-then-node-coef
returns-then-node-coef g c =
    hands_same c.clause.result _ _ (g.S.ClauseSink.state c.args.sink.now) (g.S.ClauseSink.state c.clause.new.self)
    (true_full (weighted c.args.self.now.layer.term.now) c.args.self.now.after c.args.self.now.layer.next.now (c.args.self.now.first + c.args.place) c.args.node _ _ (c.not-not_node.ensures ∙ ap negated c.fresh_at.ensures) c.not.ensures (omega (arith, c.if-node-coef.true, c.weight-coef.ensures))) c.clause.ensures

pub returns-else-node-coef : goal.returns-else-node-coef
returns-else-node-coef g c =
    let t = weighted c.args.self.now.layer.term.now in
    let child = c.child.ensures ∙ ap (λ (n : ℕ). node_at c.args.self.now.after c.args.self.now.layer.next.now (c.args.node.low - n)) c.weight-coef.ensures in
    hands_same c.clause-else-node-coef.result _ _ (g.S.ClauseSink.state c.args.sink.now) (g.S.ClauseSink.state c.clause-else-node-coef.new.self)
    (true_some t c.args.self.now.after c.args.self.now.layer.next.now (c.args.self.now.first + c.args.place) c.args.node _ _ (c.not-not_node.ensures ∙ ap negated c.fresh_at.ensures) c.not-else-node-coef.ensures _ child (omega (arith, c.if-node-coef.false, c.weight-coef.ensures))) c.clause-else-node-coef.ensures

pub fresh_at-requires : goal.fresh_at-requires
fresh_at-requires g c = record { low = c.args.self.now.low; high = omega (arith, c.args.self.now.follows, c.args.self.now.high, c.requires.within) }
