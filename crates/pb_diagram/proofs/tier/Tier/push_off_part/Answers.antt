use Rattle.std.proofs.Common.{◌+◌, ◌*◌, arith}
use Rattle.std.proofs.lemmas.Result.{on_ok_weaker}
use Rattle.pb_diagram.specs.Guards.{off_ops}
use Rattle.pb_diagram.specs.inner.Tiers.{node_at}
use Rattle.pb_diagram.proofs.GuardedOps.{never_pushed, times_pushed}
use Rattle.pb_diagram.proofs.tier.Tier.push_off_part.Goals as goal

pub returns-then-count-eq0 : goal.returns-then-count-eq0
returns-then-count-eq0 c =
    let t = c.args.self.now in
    never_pushed c.args.ops.now.items (off_ops t.after (t.counts + 2 * c.args.place + 1) (node_at t.nodes.now c.args.place)) c.args.count c.if-count-eq0.true

pub returns : goal.returns
returns c =
    let t = c.args.self.now in
    on_ok_weaker c.push_times.result
    (λ h. times_pushed c.args.ops.now.items (off_ops t.after (t.counts + 2 * c.args.place + 1) (node_at t.nodes.now c.args.place)) c.push_off_node.new.ops.items c.push_times.new.ops.items c.args.count (omega arith) c.in_ok-push_off_node.ensures h)
    c.push_times.ensures
