use Rattle.std.proofs.Common.{◌≡◌, ◌≤◌, ◌+◌, ◌*◌, drop}
use Rattle.pb_norm.specs.Constraints.{weights}
use Rattle.pb_norm.specs.BoundedSums.{sum_within}
use Rattle.pb_derive.specs.Reifications.{reification_steps}
use Rattle.pb_family.proofs.Deriving.{Deriving}
use Rattle.pb_diagram.specs.Clauses.{node_count, diagram_fresh}
use Rattle.pb_diagram.specs.DiagramSteps.{node_reifications}
use Rattle.pb_diagram.proofs.derivation.Derivation.define_nodes.Given as goal

-- the reifications of the levels from here on are left
abbrev pub invariant-loop-i : goal.invariant-loop-i
invariant-loop-i g l =
    let old = g.T.StepSink.state l.fn.sink in
    let now = g.T.StepSink.state l.sink in
    record {
      room : l.start + node_count (drop l.i l.self.shape.levels.now) ≡ l.self.first + diagram_fresh (sum_within l.self.shape.terms.now l.self.shape.bound);
      low : l.self.first ≤ l.start;
      count : now.next + 2 * l.self.first ≡ old.next + 2 * l.start;
      taken : Deriving (reification_steps old.next (node_reifications l.self.first (weights l.self.shape.terms.now) l.self.shape.levels.now)) (reification_steps now.next (node_reifications l.start (drop l.i (weights l.self.shape.terms.now)) (drop l.i l.self.shape.levels.now))) old now;
    }
