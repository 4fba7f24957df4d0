use Rattle.std.proofs.Common.{◌≡◌, ◌+◌, ◌-◌, ◌*◌, drop, length}
use Rattle.pb_diagram.specs.GuardedSteps.{count_nodes}
use Rattle.pb_diagram.specs.inner.Ladders.{IsLadder}
use Rattle.pb_diagram.proofs.guarded.Guarded.ladder.Given as goal

-- the levels behind that at a place are there
abbrev pub invariant-loop-k : goal.invariant-loop-k
invariant-loop-k l = record {
  size : length l.tiers.items + 1 ≡ l.k;
  is : IsLadder l.self (length l.self.terms.now + 1 - l.k) l.tiers.items l.empty l.order l.end l.after;
  counts : l.counts ≡ l.self.base + 2 * count_nodes (drop (length l.self.terms.now + 1 - l.k) l.self.levels.now);
}
