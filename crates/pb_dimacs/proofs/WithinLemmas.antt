-- What passes no limit of a text's length.
use Rattle.std.proofs.Common.{◌≡◌, ◌+◌, ◌<◌, ℕ, zero, suc, Bool, true, false, cond, List, [], ◌∷◌, ◌++◌, length, Option, refl, sym, ap, ◌∙◌, subst, arith}
use Rattle.std.specs.Prelude.{◌==◌}
use Rattle.std.proofs.lemmas.List.Elements.{All-head, All-tail}
use Rattle.pb_base.specs.declared.literal.Lit.{Lit}
use Rattle.pb_base.specs.declared.limit.LimitKind.{LimitKind}
use Rattle.pb_base.specs.declared.place.Place.{Place}
use Rattle.pb_base.specs.Lines.{first_line}
use Rattle.pb_base.specs.Words.{Chunk, words_of}
use Rattle.pb_desk.specs.Lines.{behind_first, IsUnbroken}
use Rattle.pb_desk.specs.Limits.{IsLengthLimit}
use Rattle.pb_desk.specs.LineReading.{IsPart}
use Rattle.pb_desk.specs.LineReaders.{Reader, left_for}
use Rattle.pb_desk.proofs.LimitLemmas.{overflows}
use Rattle.pb_dimacs.specs.declared.fault.CnfFault.TheVariants.{Token}
use Rattle.pb_base.specs.declared.expected.Expected.TheVariants.{ClauseWord, CnfEnd}
use Rattle.pb_dimacs.specs.declared.head.CnfHead.{CnfHead}
use Rattle.pb_dimacs.specs.declared.meaning.Meaning.{Meaning}
use Rattle.pb_dimacs.specs.declared.meaning.Meaning.TheVariants as meaning
use Rattle.pb_dimacs.specs.CnfReading.{line_words, is_said}
use Rattle.pb_dimacs.specs.CnfRows.{CnfRow, starts_from, row_or, rows_from}
use Rattle.pb_dimacs.specs.CnfRows.CnfRow.{plain, too_long, last}
use Rattle.pb_dimacs.specs.CnfSymbols.{CnfSymbol, Next, symbols_at, row_symbols, symbols_in, meant, with_literal, next_by, next_of}
use Rattle.pb_dimacs.specs.CnfSymbols.CnfSymbol.{word, over, end}
use Rattle.pb_dimacs.specs.CnfSymbols.Next.{clause, nothing, refused}
use Rattle.pb_dimacs.specs.CnfWhole.{CnfTold, with_clause, told_by, told_from}
use Rattle.pb_dimacs.specs.CnfWhole.CnfTold.{says, refuses}
use Rattle.pb_dimacs.specs.Cursors.{rows_left}
use Rattle.pb_dimacs.specs.Within.{AreRowsWithin, AreWithin, IsNextWithin, IsToldWithin}
use Rattle.pb_dimacs.proofs.RowLemmas.{limit_here, starts-first, rows_stop}

-- ---- a part of a line

behind-none : (part : List ℕ) → IsUnbroken part → behind_first part ≡ []
behind-none [] h = refl
behind-none (b ∷ bytes) h = ap (λ (t : Bool). cond t bytes (behind_first bytes)) (All-head (λ b. (b == 10) ≡ false) b bytes h) ∙ behind-none bytes (All-tail (λ b. (b == 10) ≡ false) b bytes h)

some-row : (r : Reader) (part : List ℕ) → 0 < length part → IsPart (left_for r) part → AreRowsWithin (rows_left r part)
some-row r part some is =
    let total : ℕ = r.at + length part in
    let later = rows_from r.limits total (r.number + 1) (starts_from true (behind_first part)) in
    let here : rows_left r part ≡ plain (r.number + 1) (first_line part) ∷ later =
    ap (rows_from r.limits total r.number) (starts-first part some) ∙ ap (λ (o : Option LimitKind). row_or o (r.number + 1) (first_line part) later) (limit_here r part ∙ is.1) in
    subst AreRowsWithin (sym here) (subst (λ (xs : List ℕ). AreRowsWithin (rows_from r.limits total (r.number + 1) (starts_from true xs))) (sym (behind-none part is.0)) tt)

-- a text that ends there is within the limits
pub part_within : (r : Reader) (part : List ℕ) → IsPart (left_for r) part → AreRowsWithin (rows_left r part)
part_within r [] is = tt
part_within r (b ∷ bytes) is = some-row r (b ∷ bytes) (omega arith) is

-- one that goes on may not be
pub record PassesRow (r : Reader) (part : List ℕ) : Type 0 where
  pub behind : List ℕ
  pub which : LimitKind
  pub rows : rows_left r (part ++ behind) ≡ too_long (r.number + 1) which ∷ []
  pub by_length : IsLengthLimit which

pub passes_row : (r : Reader) (part : List ℕ) → IsPart (left_for r) part → PassesRow r part
passes_row r part is =
    let o = overflows (left_for r) part is.0 in
    record { behind = o.behind; which = o.which; rows = rows_stop r (part ++ o.behind) o.which o.passes; by_length = o.by_length }

-- ---- symbols

within-append : (xs ys : List CnfSymbol) → AreWithin xs → AreWithin ys → AreWithin (xs ++ ys)
within-append [] ys h k = k
within-append (word place number ∷ xs) ys h k = within-append xs ys h k
within-append (over place which ∷ xs) ys h k = absurd h
within-append (end place ∷ xs) ys h k = within-append xs ys h k

within-words : (number : ℕ) (ws : List Chunk) → AreWithin (symbols_at number ws)
within-words number [] = tt
within-words number (w ∷ ws) = within-words number ws

within-line : (number : ℕ) (line : List ℕ) → AreWithin (row_symbols (plain number line))
within-line number line = by_test (is_said (line_words line))
  where
    by_test : (b : Bool) → AreWithin (cond b (symbols_at number (words_of line)) [])
    by_test true = within-words number (words_of line)
    by_test false = tt

pub rows_symbols : (rows : List CnfRow) → AreRowsWithin rows → AreWithin (symbols_in rows)
rows_symbols [] h = tt
rows_symbols (plain number line ∷ rows) h = within-append (row_symbols (plain number line)) (symbols_in rows) (within-line number line) (rows_symbols rows h)
rows_symbols (too_long number which ∷ rows) h = absurd h
rows_symbols (last number ∷ rows) h = rows_symbols rows h

-- ---- what comes next

next_literal : (l : Lit) (n : Next) → IsNextWithin n → IsNextWithin (with_literal l n)
next_literal l (clause ls rest) h = h
next_literal l nothing h = tt
next_literal l (refused fault) h = h

next_meant : (m : Meaning) (place : Place) (rest : List CnfSymbol) (n : Next) → AreWithin rest → IsNextWithin n → IsNextWithin (next_by m place rest n)
next_meant meaning.End place rest n h k = h
next_meant (meaning.Literal l) place rest n h k = next_literal l n k
next_meant meaning.Nothing place rest n h k = tt

pub next_within : (vars left : ℕ) (symbols : List CnfSymbol) → AreWithin symbols → IsNextWithin (next_of vars left symbols)
next_within vars left [] h = tt
next_within vars left (word place number ∷ rest) h = by_test (left == 0) (next_meant (meant vars number) place rest (next_of vars left rest) h (next_within vars left rest h))
  where
    by_test : (b : Bool) → IsNextWithin (next_by (meant vars number) place rest (next_of vars left rest)) → IsNextWithin (cond b (refused (Token place CnfEnd)) (next_by (meant vars number) place rest (next_of vars left rest)))
    by_test true k = tt
    by_test false k = k
next_within vars left (over place which ∷ rest) h = absurd h
next_within vars left (end place ∷ rest) h = by_test (left == 0)
  where
    by_test : (b : Bool) → IsNextWithin (cond b nothing (refused (Token place ClauseWord)))
    by_test true = tt
    by_test false = tt

-- ---- what is told

pub clause_within : (ls : List Lit) (t : CnfTold) → IsToldWithin t → IsToldWithin (with_clause ls t)
clause_within ls (says head clauses) h = tt
clause_within ls (refuses fault) h = h

by_within : (head : CnfHead) (others : List CnfSymbol → CnfTold) (n : Next) → ((rest : List CnfSymbol) → AreWithin rest → IsToldWithin (others rest)) → IsNextWithin n → IsToldWithin (told_by head others n)
by_within head others (clause ls rest) later h = clause_within ls (others rest) (later rest h)
by_within head others nothing later h = tt
by_within head others (refused fault) later h = h

pub from_within : (head : CnfHead) (left : ℕ) (symbols : List CnfSymbol) → AreWithin symbols → IsToldWithin (told_from head left symbols)
from_within head zero symbols h = by_within head (λ rest. says head []) (next_of head.vars 0 symbols) (λ rest k. tt) (next_within head.vars 0 symbols h)
from_within head (suc left) symbols h = by_within head (told_from head left) (next_of head.vars (suc left) symbols) (λ rest k. from_within head left rest k) (next_within head.vars (suc left) symbols h)

pub told_within : (head : CnfHead) (left : ℕ) (symbols : List CnfSymbol) → IsNextWithin (next_of head.vars left symbols) → IsToldWithin (told_from head left symbols)
told_within head zero symbols h = by_within head (λ rest. says head []) (next_of head.vars 0 symbols) (λ rest k. tt) h
told_within head (suc left) symbols h = by_within head (told_from head left) (next_of head.vars (suc left) symbols) (λ rest k. from_within head left rest k) h
