use Rattle.std.proofs.Common.{◌≡◌, ◌+◌, ◌*◌, ◌∙◌, ◌++◌, [], ◌∷◌, ℕ, pos, ap, arith}
use Rattle.std.proofs.lemmas.Result.{on_ok_weaker}
use Rattle.pb_steps.specs.declared.op.PolOp.TheVariants.{Push, Add, Div}
use Rattle.pb_diagram.specs.Guards.{off_path, on_path, order_ops}
use Rattle.pb_diagram.specs.inner.Tiers.{node_at}
use Rattle.pb_diagram.proofs.GuardedOps.{four_pushed, node_at_is}
use Rattle.pb_diagram.proofs.GuardedTiers.{off_in_next, on_in_next}
use Rattle.pb_diagram.proofs.tier.Tier.push_order.Goals as goal

pub returns : goal.returns
returns c =
    let t = c.args.self.now in
    let i = c.args.place in
    let start = c.args.ops.now.items in
    let one = node_at t.nodes.now c.args.place in
    let other = node_at t.nodes.now (c.args.place + 1) in
    let forward : ℕ = t.counts + 2 * i in
    let last : c.reverse.result ≡ t.counts + 2 * i + 3 = omega (arith, c.reverse.ensures) in
    on_ok_weaker c.push_ops-2.result
    (λ h.
    four_pushed start (Push c.forward.result ∷ Push c.reverse.result ∷ Add ∷ []) (off_path t.order t.after one.off other.off) (on_path t.order t.after one.on other.on) (Div (pos 3) ∷ []) c.push_ops.new.ops.items c.push_off_path.new.ops.items c.push_on_path.new.ops.items c.push_ops-2.new.ops.items
    c.in_ok-push_ops.ensures c.in_ok-push_off_path.ensures c.in_ok-push_on_path.ensures h
    ∙ (ap (λ (f : ℕ). start ++ order_ops t.order t.after f c.reverse.result one other) c.forward.ensures
    ∙ ap (λ (r : ℕ). start ++ order_ops t.order t.after forward r one other) last))
    c.push_ops-2.ensures

pub push_off_path-requires : goal.push_off_path-requires
push_off_path-requires c =
    let t = c.args.self.now in
    record {
      one = off_in_next t.coef t.nodes.now t.next.now c.args.place (node_at t.nodes.now c.args.place) (omega arith) (node_at_is t.nodes.now c.args.place (omega arith)) c.requires.level;
      other = off_in_next t.coef t.nodes.now t.next.now (c.args.place + 1) (node_at t.nodes.now (c.args.place + 1)) (omega arith) (node_at_is t.nodes.now (c.args.place + 1) (omega arith)) c.requires.level;
    }

pub push_on_path-requires : goal.push_on_path-requires
push_on_path-requires c =
    let t = c.args.self.now in
    record {
      one = on_in_next t.coef t.nodes.now t.next.now c.args.place (node_at t.nodes.now c.args.place) (omega arith) (node_at_is t.nodes.now c.args.place (omega arith)) c.requires.level;
      other = on_in_next t.coef t.nodes.now t.next.now (c.args.place + 1) (node_at t.nodes.now (c.args.place + 1)) (omega arith) (node_at_is t.nodes.now (c.args.place + 1) (omega arith)) c.requires.level;
    }
