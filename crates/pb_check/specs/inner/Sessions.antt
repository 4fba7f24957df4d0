-- What checking says of both readers and of the clauses that are kept, in a session.
use Rattle.std.specs.Prelude.{◌≡◌, ℕ, List, Option}
use Rattle.pb_base.specs.declared.literal.Lit.{Lit}
use Rattle.pb_desk.specs.Desk.{DeskState, IfKept}
use Rattle.pb_dimacs.specs.CnfReaders.{new_reader}
use Rattle.pb_steps.specs.Database.{Database}
use Rattle.pb_check.specs.KeptClauses.{SaysClauses}
use Rattle.pb_check.specs.declared.verdict.Verdict.{Verdict}
use Rattle.pb_check.specs.declared.verdict.Verdict.TheVariants.{Accepted}
use Rattle.pb_check.specs.declared.verdict.CheckFault.{CheckFault}
use Rattle.pb_check.specs.declared.taking.Taken.{Taken}
use Rattle.pb_check.specs.declared.kept.CollectedClauses.{CollectedClauses}
use Rattle.pb_check.specs.declared.session.Session.{Session}
use Rattle.pb_check.specs.inner.Calls.{TakesLine, TakesSteps, StopsSteps, AnswersLines, StopsLines}
use Rattle.pb_check.specs.inner.Readers.{ReadBoth}
use Rattle.pb_check.specs.inner.Keeping.{KeepsLine, KeepsSteps, KeepsLines}

-- nothing was read yet of two slots, and that is kept already
pub record IsNew (cnf proof : ℕ) (kept : CollectedClauses) (s : Session) : Type 0 where
  pub cnf_new : s.outputs.cnf ≡ new_reader cnf
  pub lines_new : s.derivation.lines ≡ (new_reader proof).lines
  pub kept_is : s.outputs.kept ≡ kept

abbrev pub IsReady : Session → DeskState → Type 0
IsReady s desk = ReadBoth s.outputs.cnf s.derivation.lines desk

-- a line among the steps
abbrev pub GivesLine : Taken → Database → Session → Database → Session → DeskState → DeskState → Type 0
GivesLine got db s db' s' a b = TakesLine got s.outputs.cnf db s.derivation.lines s'.outputs.cnf db' s'.derivation.lines a b

abbrev pub KeepsOne : Taken → Session → Session → DeskState → DeskState → Type 0
KeepsOne got s s' a b = KeepsLine got s.outputs.kept s.outputs.cnf s.derivation.lines s'.outputs.kept s'.outputs.cnf s'.derivation.lines a b

abbrev pub StopsAmong : CheckFault → Database → Session → Session → DeskState → DeskState → Type 0
StopsAmong fault db s s' a b = StopsSteps fault s.outputs.cnf db s.derivation.lines s'.outputs.cnf s'.derivation.lines a b

-- all steps
abbrev pub GivesSteps : Option Verdict → Database → Session → Session → DeskState → DeskState → Type 0
GivesSteps verdict db s s' a b = TakesSteps verdict s.outputs.cnf db s.derivation.lines s'.outputs.cnf s'.derivation.lines a b

abbrev pub KeepsSome : Option Verdict → Session → Session → DeskState → DeskState → Type 0
KeepsSome verdict s s' a b = KeepsSteps verdict s.outputs.kept s.outputs.cnf s.derivation.lines s'.outputs.kept s'.outputs.cnf s'.derivation.lines a b

-- all lines
abbrev pub GivesVerdict : Verdict → ℕ → Database → Session → Session → DeskState → DeskState → Type 0
GivesVerdict v loaded db s s' a b = AnswersLines v loaded s.outputs.cnf db s.derivation.lines s'.outputs.cnf s'.derivation.lines a b

abbrev pub KeepsAll : Verdict → Session → Session → DeskState → DeskState → Type 0
KeepsAll v s s' a b = KeepsLines v s.outputs.kept s.outputs.cnf s.derivation.lines s'.outputs.kept s'.outputs.cnf s'.derivation.lines a b

abbrev pub StopsChecking : CheckFault → ℕ → Database → Session → Session → DeskState → DeskState → Type 0
StopsChecking fault loaded db s s' a b = StopsLines fault loaded s.outputs.cnf db s.derivation.lines s'.outputs.cnf s'.derivation.lines a b

-- where the derivation is accepted, these are the clauses of the text in a slot
abbrev pub SaysKept : Verdict → ℕ → ℕ → List (List Lit) → DeskState → DeskState → Type 0
SaysKept v slot vars clauses a b = v ≡ Accepted → IfKept a b (λ t. SaysClauses (t.left slot) vars clauses)
