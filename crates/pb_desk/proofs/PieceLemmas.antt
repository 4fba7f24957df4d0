-- A line that grows by a piece.
use Rattle.std.proofs.Common.{◌≡◌, ◌≤◌, ◌<◌, ◌+◌, ◌-◌, ℕ, Bool, true, false, cond, inl, inr, List, ◌∷◌, ◌++◌, Option, Some, None, arith, length, drop, refl, ap, sym, ◌∙◌, subst, eqb, append_assoc, length-append}
use Rattle.std.specs.Option.{option_or}
use Rattle.std.proofs.lemmas.List.{drop_all}
use Rattle.std.proofs.lemmas.List.Elements.{All-append}
use Rattle.std.proofs.lemmas.Bool.{cases_lt}
use Rattle.std.proofs.lemmas.Bool.Decides.{nat_tests}
use Rattle.pb_base.specs.declared.limit.LimitKind.{LimitKind}
use Rattle.pb_desk.specs.declared.limits.Remaining.{Remaining}
use Rattle.pb_desk.specs.Lines.{IsUnbroken}
use Rattle.pb_desk.specs.Limits.{limit_of, limit_of_piece}
use Rattle.pb_desk.specs.LineReading.{limit_in}
use Rattle.pb_desk.specs.inner.PieceReading.{limit_after, InLine, IsEnded, IsPiece, TakesPiece}
use Rattle.pb_desk.proofs.LimitLemmas.{limit_of-piece, limit_of-ended}

piece_fits : (text : ℕ) (is_last : Bool) (line n : ℕ) → limit_of_piece text is_last line n false ≡ None → (n ≤ text) × (n ≤ line)
piece_fits text is_last line n e = (grind (arith, nat_tests), grind (arith, nat_tests))

piece_is_line : (text : ℕ) (is_last : Bool) (line n : ℕ) → limit_of_piece text is_last line n false ≡ None → 0 < n → is_last ≡ false
piece_is_line text is_last line n e some = grind (arith, nat_tests)

ended_fits : (text : ℕ) (is_last : Bool) (line n : ℕ) → limit_of_piece text is_last line n true ≡ None → (n < text) × (is_last ≡ false)
ended_fits text is_last line n e = (grind (arith, nat_tests), grind (arith, nat_tests))

-- the limit of a line, behind a piece of it
limit_behind : (left : Remaining) (line piece more : List ℕ) → InLine left line → IsUnbroken piece → limit_in left (line ++ piece ++ more) ≡ option_or (limit_of_piece (left.text - length line) left.is_last (left.line - length line) (length piece) false) (limit_after left (length (line ++ piece)) more)
limit_behind left line piece more h unbroken =
    ap (limit_in left) (append_assoc line piece more) ∙
    (h.limit (piece ++ more) ∙
    (limit_of-piece (left.text - length line) left.is_last (left.line - length line) piece more unbroken ∙
    same (left.text - length line - length piece) (left.line - length line - length piece) (omega (arith, length-append line piece)) (omega (arith, length-append line piece))))
  where
    same : (t l : ℕ) → t ≡ left.text - length (line ++ piece) → l ≡ left.line - length (line ++ piece) → option_or (limit_of_piece (left.text - length line) left.is_last (left.line - length line) (length piece) false) (limit_of t left.is_last l more) ≡ option_or (limit_of_piece (left.text - length line) left.is_last (left.line - length line) (length piece) false) (limit_after left (length (line ++ piece)) more)
    same t l e f = rw (e, f) refl

limit_at_end : (left : Remaining) (line piece more : List ℕ) → InLine left line → IsUnbroken piece → limit_in left (line ++ piece ++ 10 ∷ more) ≡ limit_of_piece (left.text - length line) left.is_last (left.line - length line) (length piece) true
limit_at_end left line piece more h unbroken =
    ap (limit_in left) (append_assoc line piece (10 ∷ more)) ∙
    (h.limit (piece ++ 10 ∷ more) ∙ limit_of-ended (left.text - length line) left.is_last (left.line - length line) piece more unbroken)

in_line_more : (left : Remaining) (line piece : List ℕ) → InLine left line → IsUnbroken piece → limit_of_piece (left.text - length line) left.is_last (left.line - length line) (length piece) false ≡ None → InLine left (line ++ piece)
in_line_more left line piece h unbroken none =
    let fits = piece_fits (left.text - length line) left.is_last (left.line - length line) (length piece) none in
    record {
      unbroken = All-append (λ b. eqb b 10 ≡ false) line piece h.unbroken unbroken;
      in_text = omega (arith, length-append line piece, fits.0, h.in_text);
      in_line = omega (arith, length-append line piece, fits.1, h.in_line);
      is_line = λ some. elim (cases_lt 0 (length line)) [
        | inl before ↦ h.is_line before
        | inr none_before ↦ piece_is_line (left.text - length line) left.is_last (left.line - length line) (length piece) none (omega (arith, length-append line piece, some, none_before))
      ];
      limit = λ more. limit_behind left line piece more h unbroken ∙ ap (λ (o : Option LimitKind). option_or o (limit_after left (length (line ++ piece)) more)) none;
    }

ended_line : (left : Remaining) (line piece : List ℕ) → InLine left line → IsUnbroken piece → limit_of_piece (left.text - length line) left.is_last (left.line - length line) (length piece) true ≡ None → IsEnded left (line ++ piece)
ended_line left line piece h unbroken none =
    let fits = ended_fits (left.text - length line) left.is_last (left.line - length line) (length piece) none in
    record {
      unbroken = All-append (λ b. eqb b 10 ≡ false) line piece h.unbroken unbroken;
      in_text = omega (arith, length-append line piece, fits.0, h.in_text);
      is_line = fits.1;
      limit = λ more. limit_at_end left line piece more h unbroken ∙ none;
    }

-- a piece that passes a limit
pub stopped_by : (left : Remaining) (is_ended : Bool) (ahead line piece : List ℕ) (which : LimitKind) → InLine left line → IsPiece ahead piece is_ended → limit_of_piece (left.text - length line) left.is_last (left.line - length line) (length piece) is_ended ≡ Some which → (more : List ℕ) → limit_in left (line ++ ahead ++ more) ≡ Some which
stopped_by left true ahead line piece which h found is more =
    let rest : List ℕ = drop (length piece + 1) ahead in
    let parts : line ++ ahead ++ more ≡ line ++ piece ++ 10 ∷ (rest ++ more) =
    ap (λ (xs : List ℕ). line ++ xs ++ more) found.ended ∙ regroup line piece rest more in
    ap (limit_in left) parts ∙ (limit_at_end left line piece (rest ++ more) h found.unbroken ∙ is)
  where
    regroup : (a b c d : List ℕ) → a ++ (b ++ 10 ∷ c) ++ d ≡ a ++ b ++ 10 ∷ (c ++ d)
    regroup a b c d = simp append_assoc
stopped_by left false ahead line piece which h found is more =
    ap (λ (xs : List ℕ). limit_in left (line ++ xs ++ more)) (sym found.whole) ∙
    (limit_behind left line piece more h found.unbroken ∙ ap (λ (o : Option LimitKind). option_or o (limit_after left (length (line ++ piece)) more)) is)

-- a piece that passes none
pub taken_piece : (left : Remaining) (is_ended : Bool) (ahead after line grown piece : List ℕ) → InLine left line → IsPiece ahead piece is_ended → limit_of_piece (left.text - length line) left.is_last (left.line - length line) (length piece) is_ended ≡ None → grown ≡ line ++ piece → after ≡ drop (cond is_ended (length piece + 1) (length piece)) ahead → TakesPiece left is_ended ahead after line grown
taken_piece left true ahead after line grown piece h found none is_grown is_after = (
  subst (IsEnded left) (sym is_grown) (ended_line left line piece h found.unbroken none),
  ap (λ (xs : List ℕ). line ++ xs) found.ended ∙
      (sym (append_assoc line piece (10 ∷ drop (length piece + 1) ahead)) ∙
      (ap (λ (xs : List ℕ). xs ++ 10 ∷ drop (length piece + 1) ahead) (sym is_grown) ∙ ap (λ (xs : List ℕ). grown ++ 10 ∷ xs) (sym is_after))),
)
taken_piece left false ahead after line grown piece h found none is_grown is_after = (
  subst (InLine left) (sym is_grown) (in_line_more left line piece h found.unbroken none),
  is_grown ∙ ap (λ (xs : List ℕ). line ++ xs) found.whole,
  is_after ∙ (ap (λ (xs : List ℕ). drop (length xs) ahead) found.whole ∙ drop_all (length ahead) ahead (omega arith)),
)
