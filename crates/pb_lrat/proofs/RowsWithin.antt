-- Rows of which none is too long, line after line.
use Rattle.std.proofs.Common.{◌≡◌, ◌+◌, ℕ, true, List, [], ◌∷◌, ◌++◌, length, Option, sym, ap, ◌∙◌, subst}
use Rattle.std.proofs.lemmas.List.{append-nil}
use Rattle.pb_base.specs.declared.limit.LimitKind.{LimitKind}
use Rattle.pb_base.specs.Lines.{first_line}
use Rattle.pb_desk.specs.declared.limits.LineLimits.{LineLimits}
use Rattle.pb_desk.specs.Lines.{behind_first}
use Rattle.pb_desk.specs.LineReading.{IsPart}
use Rattle.pb_desk.specs.LineReaders.{Reader, IsNextLine, left_for}
use Rattle.pb_dimacs.specs.CnfRows.{starts_from, row_or, rows_from}
use Rattle.pb_dimacs.specs.CnfRows.CnfRow.{plain}
use Rattle.pb_dimacs.specs.Cursors.{rows_left}
use Rattle.pb_dimacs.specs.Within.{AreRowsWithin}
use Rattle.pb_dimacs.proofs.RowLemmas.{limit_here, starts-first}
use Rattle.pb_dimacs.proofs.WithinLemmas.{part_within}

-- no line of the text is too long, if none is behind
abbrev pub IsWithinIf : Reader → Reader → List ℕ → List ℕ → Type 0
IsWithinIf old new text rest = AreRowsWithin (rows_left new rest) → AreRowsWithin (rows_left old text)

-- a line that was read
pub line_within : (old new : Reader) (text rest : List ℕ) → new.limits ≡ old.limits → new.number ≡ old.number + 1 → IsNextLine old new text rest → IsWithinIf old new text rest
line_within old new text rest limits number next within = subst AreRowsWithin (sym here) (later new.limits (new.at + length rest) new.number rest limits next.at number next.begins.behind within)
  where
    total : ℕ
    total = old.at + length text

    here : rows_left old text ≡ plain (old.number + 1) (first_line text) ∷ rows_from old.limits total (old.number + 1) (starts_from true (behind_first text))
    here =
        ap (rows_from old.limits total old.number) (starts-first text next.begins.some)
        ∙ ap (λ (o : Option LimitKind). row_or o (old.number + 1) (first_line text) (rows_from old.limits total (old.number + 1) (starts_from true (behind_first text)))) (limit_here old text ∙ next.limit)

    later : (m : LineLimits) (whole count : ℕ) (left : List ℕ) → m ≡ old.limits → whole ≡ total → count ≡ old.number + 1 → left ≡ behind_first text
        → AreRowsWithin (rows_from m whole count (starts_from true left)) → AreRowsWithin (rows_from old.limits total (old.number + 1) (starts_from true (behind_first text)))
    later m whole count left a b c d = rw (sym a, sym b, sym c, sym d) (λ h. h)

-- bytes that end with a part of a line
pub bytes_within : (old new : Reader) (bytes part : List ℕ) → IsWithinIf old new (bytes ++ []) (part ++ []) → IsPart (left_for new) part → AreRowsWithin (rows_left old bytes)
bytes_within old new bytes part within is =
    subst (λ (xs : List ℕ). AreRowsWithin (rows_left old xs)) (append-nil bytes) (within (subst (λ (xs : List ℕ). AreRowsWithin (rows_left new xs)) (sym (append-nil part)) (part_within new part is)))
