use Rattle.pb_norm.specs.Constraints.{weights}
use Rattle.pb_amo.specs.inner.Source.{source_literals}
use Rattle.pb_amo.proofs.Visited.{Gathered}
use Rattle.pb_amo.proofs.lines.Lines.gather.Given as goal

abbrev pub invariant-loop-turn : goal.invariant-loop-turn
invariant-loop-turn l = Gathered (source_literals l.self.grid.literals) l.stride.from l.stride.step l.stride.count l.turn (weights l.terms.items)
