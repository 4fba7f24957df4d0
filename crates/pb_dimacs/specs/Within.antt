-- What passes no limit of a text's length, and what could pass one yet (our own).
use Rattle.std.specs.Prelude.{ℕ, List, [], ◌∷◌, ◌++◌, Option}
use Rattle.pb_base.specs.declared.limit.LimitKind.{LimitKind}
use Rattle.pb_base.specs.declared.place.Place.{Place}
use Rattle.pb_desk.specs.Limits.{IsLengthLimit}
use Rattle.pb_dimacs.specs.declared.fault.CnfFault.{CnfFault}
use Rattle.pb_dimacs.specs.declared.fault.CnfFault.TheVariants.{Limit}
use Rattle.pb_dimacs.specs.CnfRows.{CnfRow}
use Rattle.pb_dimacs.specs.CnfRows.CnfRow.{plain, too_long, last}
use Rattle.pb_dimacs.specs.CnfSymbols.{CnfSymbol, Next, Start}
use Rattle.pb_dimacs.specs.CnfSymbols.CnfSymbol.{word, over, end}
use Rattle.pb_dimacs.specs.CnfSymbols.Next.{clause, nothing, refused}
use Rattle.pb_dimacs.specs.CnfSymbols.Start.{told, wrong}
use Rattle.pb_dimacs.specs.CnfWhole.{CnfTold}
use Rattle.pb_dimacs.specs.CnfWhole.CnfTold.{says, refuses}

-- no line is too long
abbrev pub AreRowsWithin : List CnfRow → Type 0
AreRowsWithin [] = Unit {0}
AreRowsWithin (plain number line ∷ rows) = AreRowsWithin rows
AreRowsWithin (too_long number which ∷ rows) = ⊥
AreRowsWithin (last number ∷ rows) = AreRowsWithin rows

abbrev pub AreWithin : List CnfSymbol → Type 0
AreWithin [] = Unit {0}
AreWithin (word place number ∷ symbols) = AreWithin symbols
AreWithin (over place which ∷ symbols) = ⊥
AreWithin (end place ∷ symbols) = AreWithin symbols

-- the fault is no limit of a length
abbrev pub IsFaultWithin : CnfFault → Type 0
IsFaultWithin (Limit place which) = IsLengthLimit which → ⊥
IsFaultWithin other = Unit {0}

-- nor is what comes next, or what comes behind that
abbrev pub IsNextWithin : Next → Type 0
IsNextWithin (clause ls rest) = AreWithin rest
IsNextWithin nothing = Unit {0}
IsNextWithin (refused fault) = IsFaultWithin fault

abbrev pub IsStartWithin : Start → Type 0
IsStartWithin (told head symbols) = AreWithin symbols
IsStartWithin (wrong fault) = IsFaultWithin fault

-- nor is what is told
abbrev pub IsToldWithin : CnfTold → Type 0
IsToldWithin (says head clauses) = Unit {0}
IsToldWithin (refuses fault) = IsFaultWithin fault

-- behind these bytes a limit of a length may be told yet
pub record CouldPass (Tells : List ℕ → CnfFault → Type 0) (bytes : List ℕ) : Type 0 where
  pub behind : List ℕ
  pub place : Option Place
  pub which : LimitKind
  pub by_length : IsLengthLimit which
  pub tells : Tells (bytes ++ behind) (Limit place which)
