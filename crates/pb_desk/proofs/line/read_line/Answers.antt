use Rattle.std.proofs.Common.{◌≡◌, ap, sym, ◌∙◌, true, false, List, ℕ, Bool, subst}
use Rattle.pb_desk.specs.declared.line.Found.{Found}
use Rattle.pb_desk.specs.LineReading.{TakesAhead}
use Rattle.pb_desk.specs.inner.PieceReading.{Finds, StopsLine, TakesPiece, found_at_end}
use Rattle.pb_desk.proofs.ReadLemmas.{end_found, line_fails, line_found, line_grows, line_stops, of_failed, refilled_line}
use Rattle.pb_desk.proofs.line.read_line.Goals as goal

pub returns-then-not-branch-clause-found : goal.returns-then-not-branch-clause-found
returns-then-not-branch-clause-found g c =
    let line : List ℕ = c.pieces.line.items in
    let answer : found_at_end line ≡ c.at_end.result = ap found_at_end (sym c.as_slice.ensures.value) ∙ sym c.at_end.ensures in
    let found = end_found c.args.left.now c.args.slot c.in_ok-refill.field-0 line c.args.ahead.now c.pieces.ahead c.refill.new.ahead (g.D.Desk.state c.args.desk.now) (g.D.Desk.state c.pieces.desk) (g.D.Desk.state c.refill.new.desk) c.if-not-branch.true c.pieces.invariant.in_line c.pieces.invariant.reads c.in_ok-refill.ensures.filled in
    subst (λ (f : Found). TakesAhead c.args.slot c.args.ahead.now c.refill.new.ahead (g.D.Desk.state c.args.desk.now) (g.D.Desk.state c.refill.new.desk) (Finds c.args.left.now f line)) answer found

pub returns-in-Ok-true-clause-found : goal.returns-in-Ok-true-clause-found
returns-in-Ok-true-clause-found g c =
    let line : List ℕ = c.pieces.line.items in
    let refilled = refilled_line c.args.slot c.in_ok-refill.field-0 line c.args.ahead.now c.pieces.ahead c.refill.new.ahead (g.D.Desk.state c.args.desk.now) (g.D.Desk.state c.pieces.desk) (g.D.Desk.state c.refill.new.desk) c.pieces.invariant.reads c.in_ok-refill.ensures.filled in
    let takes : TakesPiece c.args.left.now true c.refill.new.ahead.bytes c.take_piece.new.ahead.bytes line c.take_piece.new.line.items =
    subst (λ (b : Bool). TakesPiece c.args.left.now b c.refill.new.ahead.bytes c.take_piece.new.ahead.bytes line c.take_piece.new.line.items) c.in-Ok-true.field-0-test c.in-Ok-true.ensures.taken in
    line_found c.args.left.now c.args.slot line c.take_piece.new.line.items c.args.ahead.now c.refill.new.ahead c.take_piece.new.ahead (g.D.Desk.state c.args.desk.now) (g.D.Desk.state c.refill.new.desk) c.take_piece.ensures.over takes refilled

pub pieces-preserved : goal.pieces-preserved
pieces-preserved g c =
    let line : List ℕ = c.pieces.line.items in
    let refilled = refilled_line c.args.slot c.in_ok-refill.field-0 line c.args.ahead.now c.pieces.ahead c.refill.new.ahead (g.D.Desk.state c.args.desk.now) (g.D.Desk.state c.pieces.desk) (g.D.Desk.state c.refill.new.desk) c.pieces.invariant.reads c.in_ok-refill.ensures.filled in
    let takes : TakesPiece c.args.left.now false c.refill.new.ahead.bytes c.take_piece.new.ahead.bytes line c.take_piece.new.line.items =
    subst (λ (b : Bool). TakesPiece c.args.left.now b c.refill.new.ahead.bytes c.take_piece.new.ahead.bytes line c.take_piece.new.line.items) c.in-Ok-false.field-0-test c.in-Ok-false.ensures.taken in
    record {
      in_line = takes.0;
      reads = line_grows c.args.left.now c.args.slot line c.take_piece.new.line.items c.args.ahead.now c.refill.new.ahead c.take_piece.new.ahead (g.D.Desk.state c.args.desk.now) (g.D.Desk.state c.refill.new.desk) c.take_piece.ensures.over takes refilled;
    }

pub returns-in-Err-clause-stopped : goal.returns-in-Err-clause-stopped
returns-in-Err-clause-stopped g c =
    let line : List ℕ = c.pieces.line.items in
    let refilled = refilled_line c.args.slot c.in_ok-refill.field-0 line c.args.ahead.now c.pieces.ahead c.refill.new.ahead (g.D.Desk.state c.args.desk.now) (g.D.Desk.state c.pieces.desk) (g.D.Desk.state c.refill.new.desk) c.pieces.invariant.reads c.in_ok-refill.ensures.filled in
    line_stops c.args.left.now c.args.slot c.in-Err.stop line c.args.ahead.now c.refill.new.ahead c.take_piece.new.ahead (g.D.Desk.state c.args.desk.now) (g.D.Desk.state c.refill.new.desk) c.take_piece.ensures.over c.in-Err.ensures.stopped refilled

pub returns-in_err-refill-clause-stopped : goal.returns-in_err-refill-clause-stopped
returns-in_err-refill-clause-stopped g c =
    let line : List ℕ = c.pieces.line.items in
    let fails = line_fails c.args.left.now c.args.slot line c.args.ahead.now c.pieces.ahead (g.D.Desk.state c.args.desk.now) (g.D.Desk.state c.pieces.desk) (g.D.Desk.state c.refill.new.desk) c.pieces.invariant.in_line c.in_err-refill.ensures.none c.in_err-refill.ensures.not_over c.pieces.invariant.reads c.in_err-refill.ensures.failed in
    of_failed c.from_residual.result (StopsLine c.args.left.now c.args.slot c.args.ahead.now c.refill.new.ahead (g.D.Desk.state c.args.desk.now) (g.D.Desk.state c.refill.new.desk)) c.from_residual.ensures.1 fails
