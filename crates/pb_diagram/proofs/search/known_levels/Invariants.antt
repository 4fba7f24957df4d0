use Rattle.std.proofs.Common.{◌≡◌, ◌≤◌, ◌+◌, ◌*◌, ◌-◌, length}
use Rattle.pb_diagram.specs.Clauses.{node_count}
use Rattle.pb_diagram.specs.inner.Wants.{IsUnderWay, residues}
use Rattle.pb_diagram.proofs.search.known_levels.Given as goal

abbrev pub invariant-loop-search : goal.invariant-loop-search
invariant-loop-search l = record {
  going : IsUnderWay l.of l.search;
  counted : l.count ≡ node_count l.search.levels.items;
  within : l.count ≤ l.budget;
  depth : length (residues l.search.wanted.items) ≤ length l.of.terms;
}

-- each step adds a node, of which there may be as many as the budget says, or goes down a level
abbrev pub decreases-loop-search : goal.decreases-loop-search
decreases-loop-search l = 2 * (l.budget - l.count) + (length l.of.terms - length (residues l.search.wanted.items))
