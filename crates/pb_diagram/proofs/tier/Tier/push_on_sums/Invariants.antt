use Rattle.std.proofs.Common.{◌≡◌, ◌+◌, ◌*◌, ◌++◌, drop}
use Rattle.pb_diagram.specs.Guards.{on_sums}
use Rattle.pb_diagram.proofs.tier.Tier.push_on_sums.Given as goal

-- what was pushed, and the nodes from here on
abbrev pub invariant-loop-place : goal.invariant-loop-place
invariant-loop-place l =
    l.ops.items ++ on_sums l.self.lit.now l.self.order l.own (l.self.var + l.place) (l.self.counts + 2 * l.place) l.low (drop l.place l.self.nodes.now)
    ≡ l.fn.ops.items ++ on_sums l.self.lit.now l.self.order l.own l.self.var l.self.counts 0 l.self.nodes.now
