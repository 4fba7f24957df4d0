-- How going through the text of a slot as a refutation may end (our own).
use Rattle.std.specs.Prelude.{◌≡◌, ℕ, List, Some, IsOk}
use Rattle.pb_base.specs.declared.literal.Lit.{Lit}
use Rattle.pb_desk.specs.Desk.{DeskState}
use Rattle.pb_desk.specs.LineReading.{TakesAhead, FailsAhead, nothing_held}
use Rattle.pb_desk.specs.Lines.{ended_lines}
use Rattle.pb_desk.specs.LineReaders.{Reader}
use Rattle.pb_desk.specs.declared.lines.LineFault.{LineFault}
use Rattle.pb_desk.specs.declared.lines.LineFault.TheVariants as line_fault
use Rattle.pb_dimacs.specs.CnfForms.{TakesText}
use Rattle.pb_dimacs.specs.CnfRows.{rows_of, line_start, limit_place}
use Rattle.pb_dimacs.specs.Cursors.{rows_left}
use Rattle.pb_dimacs.specs.Within.{AreRowsWithin}
use Rattle.pb_lrat.specs.declared.fault.LratFault.{LratFault}
use Rattle.pb_lrat.specs.declared.fault.LratFault.TheVariants as fault
use Rattle.pb_lrat.specs.declared.refute_fault.RefuteFault.{RefuteFault}
use Rattle.pb_lrat.specs.declared.refute_fault.RefuteFault.TheVariants.{Token, Limit, NotRefuted, Failed, NoMemory}
use Rattle.pb_lrat.specs.LratStates.{LratState, started, after_lines}
use Rattle.pb_lrat.specs.LratWalk.{LratEnding, place_at, walk_from, lrat_walk}
use Rattle.pb_lrat.specs.LratWalk.LratEnding.{refuted, not_refuted, refused, limited}

-- the fault of the line of a number
abbrev pub of_lrat : ℕ → LratFault → RefuteFault
of_lrat number (fault.Token column e) = Token (place_at number column) e
of_lrat number (fault.Limit column which) = Limit (Some (place_at number column)) which
of_lrat number (fault.Denied why) = NotRefuted number why
of_lrat number fault.NoMemory = NoMemory

-- the fault of a line that was not read
abbrev pub of_line : LineFault → RefuteFault
of_line (line_fault.Limit which number) = Limit (limit_place which (line_start number)) which
of_line line_fault.Failed = Failed
of_line line_fault.NoMemory = NoMemory

-- the text of a slot was taken, and is a refutation
abbrev pub Refutes : ℕ → List (List Lit) → ℕ → DeskState → DeskState → Type 0
Refutes vars clauses slot old new = TakesText slot (λ text. lrat_walk vars clauses text ≡ refuted) old new

-- The lines that LF ends in these bytes are all taken, and no line is too long, not even a last one that LF does not end yet.
pub record TakesEnded (s : LratState) (bytes : List ℕ) : Type 0 where
  pub taken : IsOk (after_lines s (ended_lines bytes))
  pub within : AreRowsWithin (rows_of bytes)

-- why it is none: a read failed, before which no line was there that is not taken or too long; memory was wanting; or the text ends so
abbrev pub StopsRefuting : ℕ → List (List Lit) → ℕ → DeskState → DeskState → RefuteFault → Type 0
StopsRefuting vars clauses slot old new Failed = FailsAhead slot nothing_held old new (TakesEnded (started vars clauses))
StopsRefuting vars clauses slot old new NoMemory = TakesText slot (λ text. Unit {0}) old new
StopsRefuting vars clauses slot old new (Token place e) = TakesText slot (λ text. lrat_walk vars clauses text ≡ refused place e) old new
StopsRefuting vars clauses slot old new (Limit place which) = TakesText slot (λ text. lrat_walk vars clauses text ≡ limited place which) old new
StopsRefuting vars clauses slot old new (NotRefuted line why) = TakesText slot (λ text. lrat_walk vars clauses text ≡ not_refuted line why) old new

-- ---- the same of what a reader has left

abbrev pub Ends : LratState → Reader → LratEnding → List ℕ → List ℕ → Type 0
Ends s old ending text rest = walk_from s (rows_left old text) ≡ ending

abbrev pub RefutesLines : LratState → Reader → Reader → DeskState → DeskState → Type 0
RefutesLines s old new a b = TakesAhead old.slot old.ahead new.ahead a b (Ends s old refuted)

abbrev pub TakesLines : LratState → Reader → List ℕ → Type 0
TakesLines s old bytes = IsOk (after_lines s (ended_lines bytes)) × AreRowsWithin (rows_left old bytes)

abbrev pub StopsLines : RefuteFault → LratState → Reader → Reader → DeskState → DeskState → Type 0
StopsLines Failed s old new a b = FailsAhead old.slot old.ahead a b (TakesLines s old)
StopsLines NoMemory s old new a b = TakesAhead old.slot old.ahead new.ahead a b (λ text rest. Unit {0})
StopsLines (Token place e) s old new a b = TakesAhead old.slot old.ahead new.ahead a b (Ends s old (refused place e))
StopsLines (Limit place which) s old new a b = TakesAhead old.slot old.ahead new.ahead a b (Ends s old (limited place which))
StopsLines (NotRefuted line why) s old new a b = TakesAhead old.slot old.ahead new.ahead a b (Ends s old (not_refuted line why))
