use Rattle.std.proofs.Common.{◌+◌, ◌*◌, ◌++◌, List, ap, arith, drop}
use Rattle.pb_steps.specs.declared.op.PolOp.{PolOp}
use Rattle.pb_diagram.specs.Guards.{on_sums}
use Rattle.pb_diagram.specs.inner.Tiers.{node_at}
use Rattle.pb_diagram.proofs.GuardedOps.{all_pushed, node_at_is, on_begun, on_done, on_left, on_step_of, part_pushed}
use Rattle.pb_diagram.proofs.GuardedTiers.{top_within}
use Rattle.pb_diagram.proofs.tier.Tier.push_on_sums.Goals as goal

pub loop-place-init : goal.loop-place-init
loop-place-init c =
    let t = c.args.self.now in
    ap (λ (os : List PolOp). c.args.ops.now.items ++ os) (on_begun t.lit.now t.order c.args.own t.var t.counts t.nodes.now)

pub loop-place-preserved : goal.loop-place-preserved
loop-place-preserved c =
    let t = c.args.self.now in
    let own = c.args.own in
    let ns = t.nodes.now in
    let i = c.loop-place.place in
    let low = c.loop-place.low in
    let n = node_at t.nodes.now c.loop-place.place in
    part_pushed c.loop-place.ops.items (on_step_of t.lit.now t.order own t.var t.counts i low n.top n) c.push_on_step.new.ops.items (on_sums t.lit.now t.order own (t.var + i) (t.counts + 2 * i) low (drop i ns))
    (on_sums t.lit.now t.order own (t.var + (i + 1)) (t.counts + 2 * (i + 1)) n.top (drop (i + 1) ns)) (c.args.ops.now.items ++ on_sums t.lit.now t.order own t.var t.counts 0 ns) c.in_ok-push_on_step.ensures
    (on_left t.lit.now t.order own t.var t.counts low i ns (omega arith))
    c.loop-place.invariant

pub returns : goal.returns
returns c =
    let t = c.args.self.now in
    let own = c.args.own in
    let i = c.loop-place.place in
    all_pushed c.loop-place.ops.items _ (c.args.ops.now.items ++ on_sums t.lit.now t.order own t.var t.counts 0 t.nodes.now) (on_done t.lit.now t.order own (t.var + i) (t.counts + 2 * i) c.loop-place.low i t.nodes.now (omega arith)) c.loop-place.invariant

pub push_on_step-requires : goal.push_on_step-requires
push_on_step-requires c =
    let t = c.args.self.now in
    let n = node_at t.nodes.now c.loop-place.place in
    record { level = c.requires.level; within = omega arith; fits = omega (arith, t.ends, top_within 0 t.nodes.now c.loop-place.place n (omega arith) (node_at_is t.nodes.now c.loop-place.place (omega arith)) c.requires.level.up) }
