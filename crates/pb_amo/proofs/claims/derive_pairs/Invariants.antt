use Rattle.std.proofs.Common.{◌+◌, ◌++◌, drop}
use Rattle.pb_family.specs.Fresh.{literal_at}
use Rattle.pb_amo.specs.Pairwise.{pairwise_clauses}
use Rattle.pb_amo.specs.inner.Source.{source_literals}
use Rattle.pb_amo.proofs.Claiming.{Left}
use Rattle.pb_amo.proofs.Steps.{row}
use Rattle.pb_amo.proofs.claims.derive_pairs.Given as goal

abbrev pub invariant-loop-i : goal.invariant-loop-i
invariant-loop-i g l = Left l.id (source_literals l.literals) (g.T.StepSink.state l.fn.sink) (g.T.StepSink.state l.sink) (pairwise_clauses (drop l.i (source_literals l.literals)))

abbrev pub invariant-loop-j : goal.invariant-loop-j
invariant-loop-j g l =
    let ms = source_literals l.literals in
    Left l.id ms (g.T.StepSink.state l.fn.sink) (g.T.StepSink.state l.sink) (row (literal_at ms l.i) (drop l.j ms) ++ pairwise_clauses (drop (l.i + 1) ms))
