use Rattle.std.proofs.Common.{◌+◌, ◌*◌, ◌∙◌, ◌++◌, ℕ, List, ap, arith, drop, sym}
use Rattle.pb_steps.specs.declared.op.PolOp.{PolOp}
use Rattle.pb_diagram.specs.Guards.{off_ops, off_sums, plus_times}
use Rattle.pb_diagram.specs.inner.Tiers.{node_at}
use Rattle.pb_diagram.proofs.GuardedOps.{all_pushed, node_at_is, off_begun, off_done, off_left, part_pushed}
use Rattle.pb_diagram.proofs.GuardedTiers.{top_within}
use Rattle.pb_diagram.proofs.tier.Tier.push_off_sums.Goals as goal

pub loop-place-init : goal.loop-place-init
loop-place-init c =
    let t = c.args.self.now in
    ap (λ (os : List PolOp). c.args.ops.now.items ++ os) (off_begun t.after t.counts t.nodes.now)

pub loop-place-preserved : goal.loop-place-preserved
loop-place-preserved c =
    let t = c.args.self.now in
    let ns = t.nodes.now in
    let i = c.loop-place.place in
    let low = c.loop-place.low in
    let n = node_at t.nodes.now c.loop-place.place in
    let left = off_left t.after t.counts low i ns (omega arith) in
    let part = off_ops t.after (t.counts + 2 * i + 1) n in
    let rest = off_sums t.after (t.counts + 2 * (i + 1)) n.top (drop (i + 1) ns) in
    part_pushed c.loop-place.ops.items (plus_times c.saturating_sub.result part) c.push_off_part.new.ops.items (off_sums t.after (t.counts + 2 * i) low (drop i ns)) rest (c.args.ops.now.items ++ off_sums t.after t.counts 0 ns) c.in_ok-push_off_part.ensures
    (left ∙ ap (λ (k : ℕ). plus_times k part ++ rest) (sym c.saturating_sub.ensures))
    c.loop-place.invariant

pub returns : goal.returns
returns c =
    let t = c.args.self.now in
    let i = c.loop-place.place in
    all_pushed c.loop-place.ops.items _ (c.args.ops.now.items ++ off_sums t.after t.counts 0 t.nodes.now) (off_done t.after (t.counts + 2 * i) c.loop-place.low i t.nodes.now (omega arith)) c.loop-place.invariant

pub push_off_part-requires : goal.push_off_part-requires
push_off_part-requires c =
    let t = c.args.self.now in
    let n = node_at t.nodes.now c.loop-place.place in
    record { level = c.requires.level; within = omega arith; fits = omega (arith, c.saturating_sub.ensures, t.ends, top_within 0 t.nodes.now c.loop-place.place n (omega arith) (node_at_is t.nodes.now c.loop-place.place (omega arith)) c.requires.level.up) }
