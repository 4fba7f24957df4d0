-- That a run opens a text behind a problem's only where there is a problem. Our own.
use Rattle.std.specs.Prelude.{ℕ, ℤ, ◌≡◌, ◌<◌, false, List, Option, None, IsTrue}
use Rattle.pb_base.specs.declared.problem.Problem.{Problem}
use Rattle.pb_desk.specs.Desk.{DeskState, IfTold}
use Rattle.pb_words.specs.Parsed.{Wanted}
use Rattle.pb_words.specs.Parsed.Wanted.{Check, Decode, Refute, Optimum}
use Rattle.pb_suite.specs.CommandSpec.{Shelf}
use Rattle.pb_suite.specs.Denoted.{IsDenoted}

-- the text of this name denotes a problem
abbrev pub NamesProblem : List ℕ → Option ℤ → Shelf → Type 0
NamesProblem name bound shelf = (p : Problem) × IsDenoted shelf name bound p

-- a reading slot behind the first is open only where the text of this name denotes a problem
abbrev pub OpensBehind : List ℕ → Option ℤ → DeskState → DeskState → Type 0
OpensBehind name bound old new = (slot : ℕ) → 0 < slot → IsTrue (new.view.reading slot) → IfTold old (λ t. NamesProblem name bound t.shelf)

-- so it is of the commands that read a problem's text and others behind it; any other opens the first slot alone
abbrev pub OpensInTurn : Wanted → DeskState → DeskState → Type 0
OpensInTurn (Check w) old new = OpensBehind w.opb w.bound old new
OpensInTurn (Decode w) old new = OpensBehind w.opb w.bound old new
OpensInTurn (Refute w) old new = OpensBehind w.checked.opb w.checked.bound old new
OpensInTurn (Optimum w) old new = OpensBehind w.opb None old new
OpensInTurn other old new = (slot : ℕ) → 0 < slot → new.view.reading slot ≡ false
