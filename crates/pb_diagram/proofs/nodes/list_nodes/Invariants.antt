use Rattle.std.proofs.Common.{◌≡◌, ◌++◌, drop}
use Rattle.pb_norm.specs.Constraints.{weight, weights}
use Rattle.pb_diagram.specs.GuardedSteps.{nodes_in}
use Rattle.pb_diagram.proofs.nodes.list_nodes.Given as goal

-- the levels before, and those from here on
abbrev pub invariant-loop-i : goal.invariant-loop-i
invariant-loop-i l = record {
  left : l.whole ≡ weight (drop l.i (weights l.shape.terms.now));
  listed : l.levels.items ++ nodes_in (drop l.i (weights l.shape.terms.now)) (drop l.i l.shape.levels.now) ≡ nodes_in (weights l.shape.terms.now) l.shape.levels.now;
}
