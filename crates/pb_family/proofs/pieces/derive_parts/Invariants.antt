use Rattle.pb_family.proofs.Parts.{InTurn}
use Rattle.pb_family.proofs.pieces.derive_parts.Given as goal

abbrev pub invariant-loop-part : goal.invariant-loop-part
invariant-loop-part g l =
    let all = g.P.Pieces in
    InTurn all.piece_count all.piece_ids all.piece l.parts l.part-index (g.T.StepSink.state l.fn.sink) (g.T.StepSink.state l.sink)
