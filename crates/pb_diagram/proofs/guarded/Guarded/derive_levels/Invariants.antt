use Rattle.std.proofs.Common.{map}
use Rattle.pb_family.proofs.Parts.{InTurn}
use Rattle.pb_diagram.specs.inner.Parts.{count_of, ids_of, part, piece_of}
use Rattle.pb_diagram.proofs.guarded.Guarded.derive_levels.Given as goal

abbrev pub invariant-loop-tier : goal.invariant-loop-tier
invariant-loop-tier g l = InTurn count_of ids_of piece_of (map (part l.kind l.self.first) l.tiers) l.tier-index (g.T.StepSink.state l.fn.sink) (g.T.StepSink.state l.sink)
