-- How a text ends as a refutation of clauses. A text is read line by line to its end, also behind an empty clause.
use Rattle.std.specs.Prelude.{ℕ, if◌then◌else◌, List, [], ◌∷◌, Option, Some, Result, Ok, Err}
use Rattle.pb_base.specs.declared.place.Place.{Place}
use Rattle.pb_base.specs.declared.literal.Lit.{Lit}
use Rattle.pb_base.specs.declared.expected.Expected.{Expected}
use Rattle.pb_base.specs.declared.limit.LimitKind.{LimitKind}
use Rattle.pb_dimacs.specs.CnfRows.{CnfRow, rows_of, line_start, limit_place}
use Rattle.pb_dimacs.specs.CnfRows.CnfRow.{plain, too_long, last}
use Rattle.pb_lrat.specs.declared.denied.LratDenied.{LratDenied}
use Rattle.pb_lrat.specs.declared.denied.LratDenied.TheVariants.{NoEmptyClause}
use Rattle.pb_lrat.specs.declared.fault.LratFault.{LratFault}
use Rattle.pb_lrat.specs.declared.fault.LratFault.TheVariants.{Token, Limit, Denied, NoMemory}
use Rattle.pb_lrat.specs.LratStates.{LratState, started, after_line}

-- the clauses have no model; a line is denied, or an empty clause is wanting at the end; or the first fault
pub data LratEnding : Type 0 where
  refuted : LratEnding
  not_refuted : ℕ → LratDenied → LratEnding
  refused : Place → Expected → LratEnding
  limited : Option Place → LimitKind → LratEnding

abbrev pub place_at : ℕ → ℕ → Place
place_at number column = record { line = number; column = column }

-- how a line that is not taken ends the text; no line answers want of memory (LinesNeedNoMemory), so that its row is never met
abbrev pub ending_of : ℕ → LratFault → LratEnding
ending_of number (Token column e) = refused (place_at number column) e
ending_of number (Limit column which) = limited (Some (place_at number column)) which
ending_of number (Denied why) = not_refuted number why
ending_of number NoMemory = not_refuted number NoEmptyClause

abbrev pub walk_by : ℕ → (LratState → LratEnding) → Result LratState LratFault → LratEnding
walk_by number others (Ok s) = others s
walk_by number others (Err fault) = ending_of number fault

-- rows end with the last one or with one that is too long, so that none are never met
abbrev pub walk_from : LratState → List CnfRow → LratEnding
walk_from s [] = not_refuted 0 NoEmptyClause
walk_from s (plain number line ∷ rows) = walk_by number (λ t. walk_from t rows) (after_line s line)
walk_from s (too_long number which ∷ rows) = limited (limit_place which (line_start number)) which
walk_from s (last number ∷ rows) = if s.refuted then refuted else not_refuted number NoEmptyClause

-- the text as a refutation of clauses over so many variables
abbrev pub lrat_walk : ℕ → List (List Lit) → List ℕ → LratEnding
lrat_walk vars clauses text = walk_from (started vars clauses) (rows_of text)
