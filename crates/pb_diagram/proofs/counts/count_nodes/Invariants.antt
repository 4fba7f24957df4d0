use Rattle.std.proofs.Common.{◌≡◌, take}
use Rattle.pb_diagram.specs.Clauses.{node_count}
use Rattle.pb_diagram.proofs.counts.count_nodes.Given as goal

abbrev pub invariant-loop-level : goal.invariant-loop-level
invariant-loop-level l = l.count ≡ node_count (take l.level-index l.levels)
