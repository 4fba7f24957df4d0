-- Line after line of a refutation, over lines that come as they are needed.
use Rattle.std.proofs.Common.{◌≡◌, ◌+◌, ℕ, true, false, List, [], ◌∷◌, Option, Ok, Err, refl, sym, ap, ◌∙◌, subst}
use Rattle.std.specs.Prelude.{Result, IfErr, IsOk, OnOk}
use Rattle.std.specs.Result.{IsErrAnd}
use Rattle.pb_steps.specs.LineWords.{and_then}
use Rattle.pb_base.specs.declared.place.Place.{Place}
use Rattle.pb_base.specs.declared.expected.Expected.{Expected}
use Rattle.pb_base.specs.declared.limit.LimitKind.{LimitKind}
use Rattle.pb_desk.specs.Desk.{DeskState}
use Rattle.pb_desk.specs.LineReading.{Held, TakesAhead, FailsAhead, IsPart, nothing_held}
use Rattle.pb_desk.specs.LineReaders.{Reader, GivesLine, IsNextLine, left_for}
use Rattle.pb_desk.proofs.ReadLemmas.{fails_then, fails_weaker, reads_begin}
use Rattle.pb_desk.proofs.EndedLines.{Passes, passes_line, passes_part}
use Rattle.pb_desk.specs.declared.lines.LineFault.{LineFault}
use Rattle.pb_desk.specs.declared.lines.LineFault.TheVariants as line_fault
use Rattle.pb_dimacs.specs.CnfRows.{line_start, limit_place, fault_of_line}
use Rattle.pb_dimacs.specs.CnfRows.CnfRow.{plain, too_long, last}
use Rattle.pb_dimacs.specs.Cursors.{rows_left, GivesRow, StopsRow}
use Rattle.pb_dimacs.specs.Within.{AreRowsWithin}
use Rattle.pb_base.specs.declared.literal.Lit.{Lit}
use Rattle.pb_dimacs.specs.CnfForms.{TakesText}
use Rattle.pb_dimacs.specs.CnfReaders.{new_reader}
use Rattle.pb_dimacs.proofs.FormLemmas.{takes_text, start_rows}
use Rattle.pb_dimacs.proofs.CursorLemmas.{reads_on}
use Rattle.pb_lrat.specs.declared.denied.LratDenied.{LratDenied}
use Rattle.pb_lrat.specs.declared.fault.LratFault.{LratFault}
use Rattle.pb_lrat.specs.declared.fault.LratFault.TheVariants as fault
use Rattle.pb_lrat.specs.declared.refute_fault.RefuteFault.{RefuteFault}
use Rattle.pb_lrat.specs.declared.refute_fault.RefuteFault.TheVariants.{Token, Limit, NotRefuted, Failed, NoMemory}
use Rattle.pb_lrat.specs.LratStates.{LratState, started, after_line, after_lines, IsDueFault}
use Rattle.pb_lrat.specs.LratWalk.{LratEnding, ending_of, walk_by, walk_from, lrat_walk}
use Rattle.pb_lrat.specs.LratWalk.LratEnding.{refuted, not_refuted, refused, limited}
use Rattle.pb_lrat.specs.Refuting.{of_lrat, of_line, Ends, TakesEnded, TakesLines, Refutes, RefutesLines, StopsLines, StopsRefuting}
use Rattle.pb_lrat.proofs.RowsWithin.{IsWithinIf, line_within, bytes_within}

-- what is left ends the same
abbrev pub EndsSame : LratState → Reader → LratState → Reader → List ℕ → List ℕ → Type 0
EndsSame s old t new text rest = walk_from s (rows_left old text) ≡ walk_from t (rows_left new rest)

abbrev NextRow : Reader → Reader → List ℕ → List ℕ → Type 0
NextRow old new text rest = rows_left old text ≡ plain new.number new.line ∷ rows_left new rest

-- the lines are all taken
abbrev pub AllTaken : LratState → List (List ℕ) → Type 0
AllTaken s lines = IsOk (after_lines s lines)

-- so they are up to here, if those behind are; and none is too long, if none behind is
abbrev pub TakesOn : LratState → Reader → LratState → Reader → List ℕ → List ℕ → Type 0
TakesOn s old t new text rest = Passes (AllTaken s) (AllTaken t) text rest × IsWithinIf old new text rest

-- one line more is taken
pub passes_on : (s t u : LratState) (old mid new : Reader) (a b c : DeskState) (line : List ℕ) → mid.slot ≡ old.slot → line ≡ new.line → after_line t line ≡ Ok u → TakesAhead old.slot old.ahead mid.ahead a b (TakesOn s old t mid) → GivesLine true mid new b c
    → TakesAhead old.slot old.ahead new.ahead a c (TakesOn s old u new)
passes_on s t u old mid new a b c line slot is takes first more =
    reads_on old mid new a b c (TakesOn s old t mid) (IsNextLine mid new) (TakesOn s old u new) slot
    (λ text middle rest p q. (
      passes_line (AllTaken s) (AllTaken t) (AllTaken u) new.line text middle rest q.begins
          (λ lines h. subst (λ (r : Result LratState LratFault). IsOk (and_then (λ v. after_lines v lines) r)) (sym (ap (after_line t) (sym is) ∙ takes)) h) refl p.0,
      λ within. p.1 (line_within mid new middle rest more.0.limits more.1 q within),
    )) first more.3

-- a line that is taken
pub line_taken : (s t u : LratState) (old mid new : Reader) (a b c : DeskState) (line : List ℕ) → mid.slot ≡ old.slot → line ≡ new.line → after_line t line ≡ Ok u → TakesAhead old.slot old.ahead mid.ahead a b (EndsSame s old t mid) → GivesRow true mid new b c
    → TakesAhead old.slot old.ahead new.ahead a c (EndsSame s old u new)
line_taken s t u old mid new a b c line slot is takes first more =
    reads_on old mid new a b c (EndsSame s old t mid) (NextRow mid new) (EndsSame s old u new) slot
    (λ text middle rest p q. p ∙ ap (walk_from t) q ∙ ap (walk_by new.number (λ v. walk_from v (rows_left new rest))) (ap (after_line t) (sym is) ∙ takes)) first more

-- a line that is not
pub line_stopped : (f : LratFault) (s t : LratState) (old mid new : Reader) (a b c : DeskState) (line : List ℕ) (number : ℕ) → mid.slot ≡ old.slot → line ≡ new.line → number ≡ new.number → IsDueFault (after_line t line) f
    → TakesAhead old.slot old.ahead mid.ahead a b (EndsSame s old t mid) → GivesRow true mid new b c → StopsLines (of_lrat number f) s old new a c
line_stopped f s t old mid new a b c line number slot is at due first more = by_fault f due
  where
    after : (f : LratFault) → after_line t line ≡ Err f → TakesAhead old.slot old.ahead new.ahead a c (Ends s old (ending_of number f))
    after f e =
        reads_on old mid new a b c (EndsSame s old t mid) (NextRow mid new) (Ends s old (ending_of number f)) slot
        (λ text middle rest p q.
        p ∙ ap (walk_from t) q ∙ ap (walk_by new.number (λ v. walk_from v (rows_left new rest))) (ap (after_line t) (sym is) ∙ e) ∙ ap (λ (n : ℕ). ending_of n f) (sym at)) first more

    by_fault : (f : LratFault) → IsDueFault (after_line t line) f → StopsLines (of_lrat number f) s old new a c
    by_fault (fault.Token column e) due = after (fault.Token column e) (due (λ same. absurd (other column e same)))
      where
        other : (column : ℕ) (e : Expected) → fault.Token column e ≡ fault.NoMemory → ⊥
        other column e same = cc
    by_fault (fault.Limit column which) due = after (fault.Limit column which) (due (λ same. absurd (other column which same)))
      where
        other : (column : ℕ) (which : LimitKind) → fault.Limit column which ≡ fault.NoMemory → ⊥
        other column which same = cc
    by_fault (fault.Denied why) due = after (fault.Denied why) (due (λ same. absurd (other why same)))
      where
        other : (why : LratDenied) → fault.Denied why ≡ fault.NoMemory → ⊥
        other why same = cc
    by_fault fault.NoMemory due =
        reads_on old mid new a b c (EndsSame s old t mid) (NextRow mid new) (λ text rest. Unit {0}) slot (λ text middle rest p q. tt) first more

-- a line that was not read
pub row_missed : (fault : LineFault) (s t : LratState) (old mid new : Reader) (a b c : DeskState) → mid.slot ≡ old.slot → TakesAhead old.slot old.ahead mid.ahead a b (EndsSame s old t mid) → TakesAhead old.slot old.ahead mid.ahead a b (TakesOn s old t mid) → StopsRow (fault_of_line fault) mid new b c
    → StopsLines (of_line fault) s old new a c
row_missed line_fault.Failed s t old mid new a b c slot first passes stops =
    fails_then old.slot old.ahead mid.ahead a b c (TakesOn s old t mid) (IsPart (left_for mid)) (TakesLines s old)
    (λ bytes part p q. (passes_part (AllTaken s) (AllTaken t) bytes part [] q.0 refl (p []).0, bytes_within old mid bytes part (p []).1 q)) passes
    (subst (λ (n : ℕ). FailsAhead n mid.ahead b c (IsPart (left_for mid))) slot stops)
row_missed line_fault.NoMemory s t old mid new a b c slot first passes stops =
    reads_on old mid new a b c (EndsSame s old t mid) (λ text rest. Unit {0}) (λ text rest. Unit {0}) slot (λ text middle rest p q. tt) first stops
row_missed (line_fault.Limit which number) s t old mid new a b c slot first passes stops =
    reads_on old mid new a b c (EndsSame s old t mid) (λ text rest. rows_left mid text ≡ too_long (mid.number + 1) which ∷ []) (Ends s old (limited (limit_place which (line_start number)) which)) slot
    (λ text middle rest p q. p ∙ ap (walk_from t) q ∙ ap (λ (o : Option Place). limited o which) (sym stops.0))
    first stops.1

abbrev Last : Reader → Reader → List ℕ → List ℕ → Type 0
Last old new text rest = (rows_left old text ≡ last (new.number + 1) ∷ []) × (rows_left new rest ≡ last (new.number + 1) ∷ [])

-- the end of the text
pub text_ended : (s t : LratState) (old mid new : Reader) (a b c : DeskState) (ending : LratEnding) → mid.slot ≡ old.slot → TakesAhead old.slot old.ahead mid.ahead a b (EndsSame s old t mid) → GivesRow false mid new b c
    → walk_from t (last (new.number + 1) ∷ []) ≡ ending → TakesAhead old.slot old.ahead new.ahead a c (Ends s old ending)
text_ended s t old mid new a b c ending slot first more is =
    reads_on old mid new a b c (EndsSame s old t mid) (Last mid new) (Ends s old ending) slot (λ text middle rest p q. p ∙ ap (walk_from t) q.0 ∙ is) first more

-- ---- from the start of a text

from_start : (slot vars : ℕ) (clauses : List (List Lit)) (ahead : Held) (a b : DeskState) (ending : LratEnding) → TakesAhead slot nothing_held ahead a b (Ends (started vars clauses) (new_reader slot).lines ending)
    → TakesText slot (λ text. lrat_walk vars clauses text ≡ ending) a b
from_start slot vars clauses ahead a b ending reads =
    takes_text slot ahead a b (Ends (started vars clauses) (new_reader slot).lines ending) (λ text. lrat_walk vars clauses text ≡ ending)
    (λ text rest p. ap (walk_from (started vars clauses)) (sym (start_rows slot text)) ∙ p) reads

stops_at_start : (f : RefuteFault) (slot vars : ℕ) (clauses : List (List Lit)) (new : Reader) (a b : DeskState) → StopsLines f (started vars clauses) (new_reader slot).lines new a b → StopsRefuting vars clauses slot a b f
stops_at_start Failed slot vars clauses new a b stops =
    fails_weaker slot nothing_held a b (TakesLines (started vars clauses) (new_reader slot).lines) (TakesEnded (started vars clauses)) (λ bytes h. record { taken = h.0; within = subst AreRowsWithin (start_rows slot bytes) h.1 }) stops
stops_at_start NoMemory slot vars clauses new a b stops = takes_text slot new.ahead a b (λ text rest. Unit {0}) (λ text. Unit {0}) (λ text rest p. p) stops
stops_at_start (Token place e) slot vars clauses new a b stops = from_start slot vars clauses new.ahead a b (refused place e) stops
stops_at_start (Limit place which) slot vars clauses new a b stops = from_start slot vars clauses new.ahead a b (limited place which) stops
stops_at_start (NotRefuted line why) slot vars clauses new a b stops = from_start slot vars clauses new.ahead a b (not_refuted line why) stops

pub stops_text : {A : Type 0} (r : Result A RefuteFault) (slot vars : ℕ) (clauses : List (List Lit)) (s : LratState) (old new : Reader) (a b : DeskState) → old ≡ (new_reader slot).lines → s ≡ started vars clauses → IfErr r (λ f. StopsLines f s old new a b)
    → IfErr r (StopsRefuting vars clauses slot a b)
stops_text (Ok x) slot vars clauses s old new a b at is stops = tt
stops_text (Err f) slot vars clauses s old new a b at is stops =
    stops_at_start f slot vars clauses new a b (subst (λ (r : Reader). StopsLines f (started vars clauses) r new a b) at (subst (λ (t : LratState). StopsLines f t old new a b) is stops))

pub refutes_text : {A : Type 0} (r : Result A RefuteFault) (slot vars : ℕ) (clauses : List (List Lit)) (s : LratState) (old new : Reader) (a b : DeskState) → old ≡ (new_reader slot).lines → s ≡ started vars clauses → OnOk r (RefutesLines s old new a b)
    → OnOk r (Refutes vars clauses slot a b)
refutes_text (Ok x) slot vars clauses s old new a b at is reads =
    from_start slot vars clauses new.ahead a b refuted (subst (λ (r : Reader). RefutesLines (started vars clauses) r new a b) at (subst (λ (t : LratState). RefutesLines t old new a b) is reads))
refutes_text (Err f) slot vars clauses s old new a b at is reads = tt

-- memory was wanting before a byte was read
pub wants_at_start : {A : Type 0} (r : Result A RefuteFault) (slot vars : ℕ) (clauses : List (List Lit)) (a : DeskState) → a.ended slot ≡ false → IsErrAnd r (λ f. f ≡ NoMemory) → IfErr r (StopsRefuting vars clauses slot a a)
wants_at_start (Ok x) slot vars clauses a not_ended is = tt
wants_at_start (Err f) slot vars clauses a not_ended is =
    subst (StopsRefuting vars clauses slot a a) (sym is)
    (takes_text slot nothing_held a a (λ text rest. Unit {0}) (λ text. Unit {0}) (λ text rest p. p) (reads_begin slot nothing_held a (λ text rest. Unit {0}) not_ended (λ text. tt)))
