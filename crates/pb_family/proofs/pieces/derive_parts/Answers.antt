use Rattle.std.proofs.Common.{◌^◌, arith}
use Rattle.std.proofs.lemmas.Result.{IfOk-from_err}
use Rattle.pb_family.proofs.Parts.{turn_from, turn_few, turn_fault, turn_next, turn_ends, turn_next_id}
use Rattle.pb_family.proofs.pieces.derive_parts.Goals as goal

pub loop-part-init : goal.loop-part-init
loop-part-init g c =
    let all = g.P.Pieces in
    turn_from all.piece_count all.piece_ids all.piece c.args.parts.now (g.T.StepSink.state c.args.sink.now)

pub derive_pieces-requires : goal.derive_pieces-requires
derive_pieces-requires g c =
    let all = g.P.Pieces in
    record { few = turn_few all.piece_count all.piece_ids all.piece c.args.parts.now c.loop-part.part-index c.part-item.result (g.T.StepSink.state c.args.sink.now) (g.T.StepSink.state c.loop-part.sink) (omega arith) c.part-item.is c.loop-part.invariant (2 ^ 62) c.requires.few }

pub returns-in_err-derive_pieces : goal.returns-in_err-derive_pieces
returns-in_err-derive_pieces g c =
    let all = g.P.Pieces in
    record {
      hands = turn_fault all.piece_count all.piece_ids all.piece c.args.parts.now c.loop-part.part-index c.part-item.result (g.T.StepSink.state c.args.sink.now) (g.T.StepSink.state c.loop-part.sink) (omega arith) c.part-item.is c.loop-part.invariant
          c.from_residual.result _ (g.T.StepSink.state c.derive_pieces.new.sink) c.from_residual.ensures.1 c.in_err-derive_pieces.ensures;
      next = IfOk-from_err _ _ c.from_residual.ensures.0;
    }

pub loop-part-preserved : goal.loop-part-preserved
loop-part-preserved g c =
    let all = g.P.Pieces in
    turn_next all.piece_count all.piece_ids all.piece c.args.parts.now c.loop-part.part-index c.part-item.result (g.T.StepSink.state c.args.sink.now) (g.T.StepSink.state c.loop-part.sink) (omega arith) c.part-item.is c.loop-part.invariant
    (g.T.StepSink.state c.derive_pieces.new.sink) (g.met.P.Pieces.takes c.part-item.result) c.in_ok-derive_pieces.ensures

pub returns : goal.returns
returns g c =
    let all = g.P.Pieces in
    let old = g.T.StepSink.state c.args.sink.now in
    let now = g.T.StepSink.state c.loop-part.sink in
    record {
      hands = turn_ends all.piece_count all.piece_ids all.piece c.args.parts.now c.loop-part.part-index old now (omega arith) c.loop-part.invariant;
      next = turn_next_id all.piece_count all.piece_ids all.piece c.args.parts.now c.loop-part.part-index old now (omega arith) c.loop-part.invariant;
    }
