use Rattle.std.proofs.Common.{◌≡◌, ◌≤◌, ◌-◌, ◌++◌, ℕ, drop, length}
use Rattle.pb_diagram.specs.Guards.{place_sums, reach_by}
use Rattle.pb_diagram.specs.inner.Tiers.{IsReached, child_on}
use Rattle.pb_diagram.proofs.tier.Tier.push_places.Given as goal

-- how far the nodes reach that were seen; and what was pushed, and the places from here on
abbrev pub invariant-loop-place : goal.invariant-loop-place
invariant-loop-place l =
    let reach : ℕ → ℕ = λ j. reach_by (child_on l.side) l.self.nodes.now j - l.less in
    record {
      few : l.reach.seen ≤ length l.self.nodes.now;
      reached : IsReached (child_on l.side) l.self.nodes.now l.reach.seen l.reach.top l.place;
      pushed : l.ops.items ++ place_sums reach l.self.order l.self.after (length l.self.next.now - 1) l.place (drop l.place l.self.next.now) ≡ l.fn.ops.items ++ place_sums reach l.self.order l.self.after (length l.self.next.now - 1) 0 l.self.next.now;
    }
