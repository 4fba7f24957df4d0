use Rattle.std.proofs.Common.{◌≡◌, ◌+◌, drop}
use Rattle.pb_norm.specs.Constraints.{weight, weights}
use Rattle.pb_norm.specs.BoundedSums.{sum_within}
use Rattle.pb_diagram.specs.Clauses.{inner_count, diagram_size}
use Rattle.pb_diagram.proofs.counts.count_clauses.Given as goal

abbrev pub invariant-loop-i : goal.invariant-loop-i
invariant-loop-i l = record {
  left : l.whole ≡ weight (drop l.i (weights l.shape.terms.now));
  counted : l.count + inner_count (drop l.i (weights l.shape.terms.now)) (drop l.i l.shape.levels.now) ≡ diagram_size (sum_within l.shape.terms.now l.shape.bound);
}
