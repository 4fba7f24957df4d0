use Rattle.std.proofs.Common.{◌+◌}
use Rattle.pb_family.proofs.Looping.{Looping}
use Rattle.pb_family.proofs.Sequence.{justification_piece}
use Rattle.pb_totalizer.specs.inner.Rows.{one_beside}
use Rattle.pb_totalizer.proofs.row_claims.derive_row.Given as goal

abbrev pub invariant-loop-place : goal.invariant-loop-place
invariant-loop-place g l =
    let one = one_beside l.direction l.node l.i in
    Looping (justification_piece (λ k. one (l.low + k))) 1 l.count l.place (g.T.StepSink.state l.fn.sink) (g.T.StepSink.state l.sink)
