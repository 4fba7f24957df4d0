use Rattle.pb_norm.specs.Constraints.{weighted, weights}
use Rattle.pb_diagram.proofs.NodeSteps.{Noding}
use Rattle.pb_diagram.proofs.claims.Claims.derive_level.Given as goal

abbrev pub invariant-loop-place : goal.invariant-loop-place
invariant-loop-place g l = Noding (weighted l.self.layer.term.now) (weights l.self.layer.rest.now) l.self.layer.next.now l.self.after l.self.id l.self.layer.nodes.now l.place (g.T.StepSink.state l.fn.sink) (g.T.StepSink.state l.sink)
