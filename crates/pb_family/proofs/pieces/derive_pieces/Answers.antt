use Rattle.std.proofs.Common.{◌≤◌, ◌+◌, ◌*◌, ℕ, refl, arith}
use Rattle.std.proofs.Math.Nat.{mul-le-mul_left}
use Rattle.pb_family.specs.Derivations.{pieces}
use Rattle.pb_family.proofs.Looping.{looping_from, ArePieces, pieces_next, pieces_fault, pieces_end}
use Rattle.pb_family.proofs.pieces.derive_pieces.Goals as goal

pub loop-number-init : goal.loop-number-init
loop-number-init g c =
    let all = g.P.Pieces in
    let of = c.args.of.now in
    looping_from (all.piece of) (all.piece_ids of) (all.piece_count of) (g.T.StepSink.state c.args.sink.now)

pub derive_one-requires-clause-few : goal.derive_one-requires-clause-few
derive_one-requires-clause-few g c =
    let all = g.P.Pieces in
    let of = c.args.of.now in
    let k : ℕ = c.loop-number.number in
    let more : all.piece_ids of * (k + 1) ≤ all.piece_ids of * all.piece_count of = mul-le-mul_left (all.piece_ids of) (omega arith) in
    omega (arith, c.requires.few, c.loop-number.invariant.count, more)

pub returns-in_err-derive_one : goal.returns-in_err-derive_one
returns-in_err-derive_one g c =
    let all = g.P.Pieces in
    let of = c.args.of.now in
    let made : ArePieces (λ next. pieces (all.piece of) (all.piece_ids of) next 0 (all.piece_count of)) (all.piece of) (all.piece_ids of) (all.piece_count of) = record { same = λ next. refl; ids = g.met.P.Pieces.takes of } in
    pieces_fault made c.loop-number.invariant c.from_residual.result _ (g.T.StepSink.state c.derive_one.new.sink) (omega arith) c.from_residual.ensures.1 c.in_err-derive_one.ensures

pub loop-number-preserved : goal.loop-number-preserved
loop-number-preserved g c =
    let all = g.P.Pieces in
    let of = c.args.of.now in
    let made : ArePieces (λ next. pieces (all.piece of) (all.piece_ids of) next 0 (all.piece_count of)) (all.piece of) (all.piece_ids of) (all.piece_count of) = record { same = λ next. refl; ids = g.met.P.Pieces.takes of } in
    pieces_next made c.loop-number.invariant (g.T.StepSink.state c.derive_one.new.sink) (omega arith) c.in_ok-derive_one.ensures

pub returns : goal.returns
returns g c =
    let all = g.P.Pieces in
    let of = c.args.of.now in
    let made : ArePieces (λ next. pieces (all.piece of) (all.piece_ids of) next 0 (all.piece_count of)) (all.piece of) (all.piece_ids of) (all.piece_count of) = record { same = λ next. refl; ids = g.met.P.Pieces.takes of } in
    pieces_end made c.loop-number.invariant (omega arith)
