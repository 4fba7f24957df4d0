use Rattle.std.proofs.Common.{map}
use Rattle.pb_norm.specs.Constraints.{weights}
use Rattle.pb_norm.specs.Reduction.{opposite}
use Rattle.pb_diagram.proofs.ReificationSteps.{Defining}
use Rattle.pb_diagram.proofs.derivation.define_level.Given as goal

abbrev pub invariant-loop-place : goal.invariant-loop-place
invariant-loop-place g l = Defining l.first (map opposite (weights l.sides.negated.now)) l.sides.nodes.now l.place (g.T.StepSink.state l.fn.sink) (g.T.StepSink.state l.sink)
