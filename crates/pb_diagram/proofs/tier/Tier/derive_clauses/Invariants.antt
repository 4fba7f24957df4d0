use Rattle.pb_diagram.proofs.GuardedHanding.{Claiming}
use Rattle.pb_diagram.proofs.tier.Tier.derive_clauses.Given as goal

abbrev pub invariant-loop-place : goal.invariant-loop-place
invariant-loop-place g l = Claiming l.self.lit.now l.self.after l.self.var l.self.counts l.self.nodes.now l.place (g.T.StepSink.state l.fn.sink) (g.T.StepSink.state l.sink)
