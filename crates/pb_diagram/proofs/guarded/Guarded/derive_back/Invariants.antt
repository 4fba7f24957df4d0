use Rattle.std.proofs.Common.{map, reverse}
use Rattle.pb_family.proofs.Parts.{InTurn}
use Rattle.pb_diagram.specs.declared.parts.Kind.TheVariants.{Clauses}
use Rattle.pb_diagram.specs.inner.Parts.{count_of, ids_of, part, piece_of}
use Rattle.pb_diagram.proofs.guarded.Guarded.derive_back.Given as goal

abbrev pub invariant-loop-k : goal.invariant-loop-k
invariant-loop-k g l = InTurn count_of ids_of piece_of (reverse (map (part Clauses l.self.first) l.tiers)) l.k (g.T.StepSink.state l.fn.sink) (g.T.StepSink.state l.sink)
