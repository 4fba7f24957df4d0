use Rattle.std.proofs.Common.{◌≡◌, ◌≤◌, ◌+◌, ◌*◌, ◌++◌, [], ◌∷◌, drop, map}
use Rattle.pb_norm.specs.Constraints.{weight, weights}
use Rattle.pb_norm.specs.BoundedSums.{sum_within}
use Rattle.pb_derive.specs.Claims.{claim_steps}
use Rattle.pb_derive.specs.Justifications.{by_justification}
use Rattle.pb_family.proofs.Deriving.{Deriving}
use Rattle.pb_diagram.specs.Clauses.{node_count, diagram_fresh}
use Rattle.pb_diagram.specs.DiagramSteps.{node_justifications, top_justification, justifications_over}
use Rattle.pb_diagram.proofs.derivation.Derivation.derive_clauses.Given as goal

-- the justifications of the levels from here on are left, and that of the root
abbrev pub invariant-loop-i : goal.invariant-loop-i
invariant-loop-i g l =
    let old = g.T.StepSink.state l.fn.sink in
    let now = g.T.StepSink.state l.sink in
    let ts = weights l.self.shape.terms.now in
    let fresh = diagram_fresh (sum_within l.self.shape.terms.now l.self.shape.bound) in
    record {
      left : l.whole ≡ weight (drop l.i ts);
      room : l.id + 2 * node_count (drop l.i l.self.shape.levels.now) ≡ l.self.base + 2 * fresh;
      count : now.next + 2 * node_count (drop l.i l.self.shape.levels.now) ≤ old.next + 2 * fresh;
      taken : Deriving (claim_steps old.next (map by_justification (justifications_over ts l.self.shape.levels.now 0 l.self.base l.self.own)))
          (claim_steps now.next (map by_justification (node_justifications 0 l.id (drop l.i ts) (drop l.i l.self.shape.levels.now) ++ top_justification 0 l.self.base l.self.own ∷ []))) old now;
    }
