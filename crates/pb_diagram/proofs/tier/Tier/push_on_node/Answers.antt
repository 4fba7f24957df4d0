use Rattle.std.proofs.Common.{◌∙◌, ◌++◌, [], ◌∷◌, ℕ, pos, ap, arith}
use Rattle.std.proofs.lemmas.Result.{on_ok_weaker}
use Rattle.pb_base.specs.declared.literal.Lit.{Lit}
use Rattle.pb_base.specs.Literals.{negated}
use Rattle.pb_steps.specs.declared.op.PolOp.TheVariants.{Push, Div}
use Rattle.pb_diagram.specs.Guards.{and_literal, between, on_ops}
use Rattle.pb_diagram.specs.inner.Tiers.{node_at}
use Rattle.pb_diagram.proofs.GuardedOps.{four_pushed, node_at_is}
use Rattle.pb_diagram.proofs.GuardedTiers.{off_in_next}
use Rattle.pb_diagram.proofs.tier.Tier.push_on_node.Goals as goal

pub returns : goal.returns
returns c =
    let t = c.args.self.now in
    let start = c.args.ops.now.items in
    let n = node_at t.nodes.now c.args.place in
    on_ok_weaker c.push_ops-2.result
    (λ h.
    four_pushed start (Push c.reverse.result ∷ []) (between t.order n.off n.on) (and_literal (negated t.lit.now)) (Div (pos 3) ∷ []) c.push_ops.new.ops.items c.push_between.new.ops.items c.push_literal.new.ops.items c.push_ops-2.new.ops.items
    c.in_ok-push_ops.ensures c.in_ok-push_between.ensures (c.in_ok-push_literal.ensures ∙ ap (λ (l : Lit). c.push_between.new.ops.items ++ and_literal l) c.not.ensures) h
    ∙ ap (λ (r : ℕ). start ++ on_ops t.lit.now t.order r n) c.reverse.ensures)
    c.push_ops-2.ensures

pub push_between-requires : goal.push_between-requires
push_between-requires c =
    let t = c.args.self.now in
    off_in_next t.coef t.nodes.now t.next.now c.args.place (node_at t.nodes.now c.args.place) (omega arith) (node_at_is t.nodes.now c.args.place (omega arith)) c.requires.level
