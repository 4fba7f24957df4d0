use Rattle.std.proofs.Common.{◌≡◌, ◌+◌, ◌*◌, ◌++◌, drop}
use Rattle.pb_diagram.specs.Guards.{off_sums}
use Rattle.pb_diagram.proofs.tier.Tier.push_off_sums.Given as goal

-- what was pushed, and the nodes from here on
abbrev pub invariant-loop-place : goal.invariant-loop-place
invariant-loop-place l =
    l.ops.items ++ off_sums l.self.after (l.self.counts + 2 * l.place) l.low (drop l.place l.self.nodes.now) ≡ l.fn.ops.items ++ off_sums l.self.after l.self.counts 0 l.self.nodes.now
