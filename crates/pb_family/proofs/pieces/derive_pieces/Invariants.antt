use Rattle.pb_family.proofs.Looping.{Looping}
use Rattle.pb_family.proofs.pieces.derive_pieces.Given as goal

abbrev pub invariant-loop-number : goal.invariant-loop-number
invariant-loop-number g l =
    let all = g.P.Pieces in
    Looping (all.piece l.of) (all.piece_ids l.of) (all.piece_count l.of) l.number (g.T.StepSink.state l.fn.sink) (g.T.StepSink.state l.sink)
