use Rattle.std.proofs.Common.{◌∙◌, ◌++◌, [], ◌∷◌, ℕ, pos, ap, arith}
use Rattle.std.proofs.lemmas.Result.{on_ok_weaker}
use Rattle.pb_steps.specs.declared.op.PolOp.TheVariants.{Push, Div}
use Rattle.pb_diagram.specs.Guards.{off_ops, spare_on}
use Rattle.pb_diagram.specs.inner.Tiers.{node_at}
use Rattle.pb_diagram.proofs.GuardedOps.{node_at_is, three_pushed}
use Rattle.pb_diagram.proofs.GuardedTiers.{on_in_next}
use Rattle.pb_diagram.proofs.tier.Tier.push_off_node.Goals as goal

pub returns : goal.returns
returns c =
    let t = c.args.self.now in
    let start = c.args.ops.now.items in
    let n = node_at t.nodes.now c.args.place in
    on_ok_weaker c.push_ops-2.result
    (λ h.
    three_pushed start (Push c.reverse.result ∷ []) (spare_on t.after n.off n.on) (Div (pos 3) ∷ []) c.push_ops.new.ops.items c.push_spare.new.ops.items c.push_ops-2.new.ops.items c.in_ok-push_ops.ensures c.in_ok-push_spare.ensures h
    ∙ ap (λ (r : ℕ). start ++ off_ops t.after r n) c.reverse.ensures)
    c.push_ops-2.ensures

pub push_spare-requires : goal.push_spare-requires
push_spare-requires c =
    let t = c.args.self.now in
    on_in_next t.coef t.nodes.now t.next.now c.args.place (node_at t.nodes.now c.args.place) (omega arith) (node_at_is t.nodes.now c.args.place (omega arith)) c.requires.level
