-- When readers go on, and what their faults are.
use Rattle.std.specs.Prelude.{◌≡◌, ◌≢◌, ◌≤◌, ◌<◌, ◌^◌, ℕ, false, IsTrue, Option, None}
use Rattle.pb_desk.specs.Desk.{DeskState, IsSteady}
use Rattle.pb_desk.specs.LineReading.{Knows}
use Rattle.pb_desk.specs.LineReaders.{Reader}
use Rattle.pb_desk.specs.declared.lines.LineFault.{LineFault}
use Rattle.pb_dimacs.specs.declared.fault.CnfFault.{CnfFault}
use Rattle.pb_dimacs.specs.CnfReaders.{CnfReader}
use Rattle.pb_steps.specs.declared.step.Step.{Step}
use Rattle.pb_steps.specs.Steps.{IsSpelled}
use Rattle.pb_check.specs.declared.verdict.CheckFault.{CheckFault}
use Rattle.pb_check.specs.declared.verdict.CheckFault.TheVariants.{ReadFault}
use Rattle.pb_check.specs.Outcomes.{NamesText}
use Rattle.pb_check.specs.inner.Phases.{says_nothing}

-- a reader had no fault, its slot is open, and the desk knows of the slot what the reader does
pub record CanRead (F : Type 0) (fault : Option F) (r : Reader) (desk : DeskState) : Type 0 where
  pub fine : fault ≡ None
  pub is_open : IsTrue (desk.view.reading r.slot)
  pub knows : Knows r.slot r.ahead desk

abbrev pub ReadsLines : Reader → DeskState → Type 0
ReadsLines r desk = CanRead LineFault r.fault r desk

abbrev pub ReadsClauses : CnfReader → DeskState → Type 0
ReadsClauses r desk = CanRead CnfFault r.fault r.lines desk

-- both readers
pub record ReadBoth (cnf : CnfReader) (proof : Reader) (desk : DeskState) : Type 0 where
  pub clauses : ReadsClauses cnf desk
  pub lines : ReadsLines proof desk

-- the readers of two slots, from whose first bytes on they read
pub record CanBegin (cnf proof : ℕ) (desk : DeskState) : Type 0 where
  pub cnf_kind : cnf < 5
  pub proof_kind : proof < 5
  pub apart : cnf ≢ proof
  pub cnf_open : IsTrue (desk.view.reading cnf)
  pub proof_open : IsTrue (desk.view.reading proof)
  pub cnf_begun : desk.ended cnf ≡ false
  pub proof_begun : desk.ended proof ≡ false

-- a line or more was read, within the limit of lines
pub record IsLater (old new : Reader) : Type 0 where
  pub further : old.number < new.number
  pub few : new.number ≤ 2 ^ 40

-- the step of a line that says something
pub record IsSaid (step : Step) : Type 0 where
  pub said : says_nothing step ≡ false
  pub spelled : IsSpelled step

-- the slot and the number of variables stay
pub record IsSameCnf (old new : CnfReader) : Type 0 where
  pub slot : new.lines.slot ≡ old.lines.slot
  pub vars : new.vars ≡ old.vars

-- a refusal names one of the two texts, and a steady desk fails no read
pub record IsFaultOf (desk : DeskState) (fault : CheckFault) : Type 0 where
  pub named : NamesText fault
  pub steady : IsSteady desk → fault ≢ ReadFault
