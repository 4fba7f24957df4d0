use Rattle.std.proofs.Common.{◌-◌, ap, sym, ◌∙◌, length, ℕ, Bool, List, Option, subst}
use Rattle.pb_base.specs.declared.limit.LimitKind.{LimitKind}
use Rattle.pb_desk.specs.declared.limits.Remaining.{Remaining}
use Rattle.pb_desk.specs.Limits.{limit_of_piece}
use Rattle.pb_desk.specs.LineReading.{Held}
use Rattle.pb_desk.specs.inner.PieceReading.{IsPiece}
use Rattle.pb_desk.proofs.PieceLemmas.{stopped_by, taken_piece}
use Rattle.pb_desk.proofs.piece.take_piece.Goals as goal

-- the limit that the code tests
abbrev limit : Remaining → ℕ → Bool → List ℕ → Option LimitKind
limit left count is_ended so_far = limit_of_piece (left.text - length so_far) left.is_last (left.line - length so_far) count is_ended

pub returns-in-Some-clause-stopped : goal.returns-in-Some-clause-stopped
returns-in-Some-clause-stopped c =
    let piece : List ℕ = c.first_piece-piece.result.bytes.now in
    let is_ended : Bool = c.first_piece-piece.result.is_ended in
    let found : IsPiece c.args.ahead.now.bytes piece is_ended = subst (λ (xs : List ℕ). IsPiece xs piece is_ended) c.bytes.ensures c.first_piece-piece.ensures in
    stopped_by c.args.left.now is_ended c.args.ahead.now.bytes c.args.line.now.items piece c.in-Some.which c.requires found
    (ap (limit c.args.left.now (length piece) is_ended) (sym c.as_slice.ensures.value) ∙ (sym c.limit_of_more.ensures ∙ c.in-Some.is))

pub returns-clause-taken : goal.returns-clause-taken
returns-clause-taken c =
    let piece : List ℕ = c.first_piece-piece.result.bytes.now in
    let is_ended : Bool = c.first_piece-piece.result.is_ended in
    let found : IsPiece c.args.ahead.now.bytes piece is_ended = subst (λ (xs : List ℕ). IsPiece xs piece is_ended) c.bytes.ensures c.first_piece-piece.ensures in
    taken_piece c.args.left.now is_ended c.args.ahead.now.bytes c.skip_piece.new.ahead.bytes c.args.line.now.items c.extend_from_slice.new.self.items piece c.requires found
    (ap (limit c.args.left.now (length piece) is_ended) (sym c.as_slice.ensures.value) ∙ (sym c.limit_of_more.ensures ∙ c.in_default.is))
    c.in-Ok.ensures.items (ap (λ (held : Held). held.bytes) c.skip_piece.ensures)
