use Rattle.std.proofs.Common.{◌≡◌, ◌≤◌, ◌+◌, ◌++◌, ◌∷◌, [], drop}
use Rattle.pb_norm.specs.Constraints.{weight, weights}
use Rattle.pb_norm.specs.BoundedSums.{sum_within}
use Rattle.pb_family.specs.Fresh.{positive_of}
use Rattle.pb_family.proofs.Emission.{Emitting}
use Rattle.pb_diagram.specs.Clauses.{node_clauses, node_count, diagram_clauses, diagram_fresh}
use Rattle.pb_diagram.proofs.emission.emit_whole.Given as goal

-- the clauses of the levels from here on are left, and that of the root
abbrev pub invariant-loop-i : goal.invariant-loop-i
invariant-loop-i g l =
    let sink = g.S.ClauseSink in
    let of = sum_within l.shape.terms.now l.shape.bound in
    record {
      left : l.whole ≡ weight (drop l.i (weights l.shape.terms.now));
      room : l.start + node_count (drop l.i l.shape.levels.now) ≡ l.first + diagram_fresh of;
      low : l.first ≤ l.start;
      clauses : Emitting (diagram_clauses of l.first) (node_clauses l.start (drop l.i (weights l.shape.terms.now)) (drop l.i l.shape.levels.now) ++ (positive_of l.first ∷ []) ∷ []) (sink.state l.fn.sink) (sink.state l.sink);
    }
