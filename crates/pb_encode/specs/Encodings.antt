-- What encoding a problem does to a desk. Our own.
use Rattle.std.specs.Prelude.{ℕ, ◌≡◌, ◌<◌, List, take, length, Option, Some, None, IsSomeAnd, option_copied}
use Rattle.pb_base.specs.declared.limit.LimitKind.{LimitKind}
use Rattle.pb_base.specs.declared.problem.Problem.{Problem}
use Rattle.pb_desk.specs.View.{View, created, wrote, closed}
use Rattle.pb_desk.specs.Desk.{DeskState, Reaches, FailsToWrite, IsSteady, IsTaken, IsTold, same}
use Rattle.pb_dimacs.specs.CnfText.{cnf_text}
use Rattle.pb_family.specs.StepSinks.{steps_text}
use Rattle.pb_base.specs.declared.options.Options.{Options}
use Rattle.pb_encode.specs.declared.encoding.Names.{Names}
use Rattle.pb_encode.specs.Clauses.{problem_clauses, problem_vars}
use Rattle.pb_encode.specs.Steps.{problem_steps}
use Rattle.pb_encode.specs.Summaries.{IsEncodable, IsOver}

-- the CNF text of a problem
abbrev pub problem_text : Options → Problem → List ℕ
problem_text o p = cnf_text (problem_vars o p) (problem_clauses o p)

-- the text of the derivation of its clauses
abbrev pub derivation_text : Options → Problem → List ℕ
derivation_text o p = steps_text (problem_steps o p)

-- ---- one file

-- a file was made in a slot, and holds these bytes
abbrev pub begun : ℕ → List ℕ → List ℕ → View → View
begun slot name bytes view = wrote slot bytes (created slot name view)

-- it was ended
abbrev pub made : ℕ → List ℕ → List ℕ → View → View
made slot name bytes view = closed slot (begun slot name bytes view)

-- A write failed: before the file was made, or once it held a first part of the text.
pub data StopsMaking (slot : ℕ) (name text : List ℕ) (old new : DeskState) : Type 0 where
  not_made : FailsToWrite same old new → StopsMaking slot name text old new
  in_text : (count : ℕ) → FailsToWrite (begun slot name (take count text)) old new → StopsMaking slot name text old new

-- Why a steady desk may fail to make a file: the name or the slot is used, or there is no room for the text.
pub data LacksToMake (slot : ℕ) (name text : List ℕ) (desk : DeskState) : Type 0 where
  is_taken : IsTold desk (λ t. IsTaken slot name t.made) → LacksToMake slot name text desk
  no_room : IsSomeAnd desk.view.room (λ most. most < length text) → LacksToMake slot name text desk

-- Memory ran out once the file had a first part of the text, and no write failed; or one did, over a steady desk because something is missing to make the file.
pub data LeavesPart (slot : ℕ) (name text : List ℕ) (old new : DeskState) : Type 0 where
  left : (count : ℕ) → Reaches (begun slot name (take count text)) old new → LeavesPart slot name text old new
  cut_off : (count : ℕ) → FailsToWrite (begun slot name (take count text)) old new → (IsSteady old → LacksToMake slot name text old) → LeavesPart slot name text old new

-- ---- the CNF in slot 0, and then the derivation in slot 1 if it has a name

pub record FileNames : Type 0 where
  pub cnf : List ℕ
  pub proof : Option (List ℕ)

abbrev pub names_of : Names → FileNames
names_of names = record { cnf = names.cnf.now; proof = option_copied names.proof }

-- the derivation was made after the CNF
abbrev pub with_proof : Options → Problem → Option (List ℕ) → View → View
with_proof o p None view = view
with_proof o p (Some proof) view = made 1 proof (derivation_text o p) view

abbrev pub made_files : Options → Problem → FileNames → View → View
made_files o p names view = with_proof o p names.proof (made 0 names.cnf (problem_text o p) view)

-- The CNF was made whole, and what came then took the desk to its end.
pub record AfterCnf (o : Options) (p : Problem) (names : FileNames) (Ends : List ℕ → DeskState → Type 0) (old : DeskState) : Type 0 where
  pub proof : List ℕ
  pub named : names.proof ≡ Some proof
  pub between : DeskState
  pub whole : Reaches (made 0 names.cnf (problem_text o p)) old between
  pub ends : Ends proof between

-- A write failed on the way to the CNF, or, once that was whole, on the way to the derivation.
pub data StopsEncoding (o : Options) (p : Problem) (names : FileNames) (old new : DeskState) : Type 0 where
  in_cnf : StopsMaking 0 names.cnf (problem_text o p) old new → StopsEncoding o p names old new
  in_proof : AfterCnf o p names (λ proof between. StopsMaking 1 proof (derivation_text o p) between new) old → StopsEncoding o p names old new

-- Why a steady desk may fail to make the files: something lacks for the CNF, or for the derivation; of two names that are equal the second is used.
pub data Lacks (o : Options) (p : Problem) (names : FileNames) (desk : DeskState) : Type 0 where
  for_cnf : LacksToMake 0 names.cnf (problem_text o p) desk → Lacks o p names desk
  equal_names : names.proof ≡ Some names.cnf → Lacks o p names desk
  for_proof : (proof : List ℕ) → names.proof ≡ Some proof → LacksToMake 1 proof (derivation_text o p) desk → Lacks o p names desk

-- ---- why a problem is not encoded

-- it passes a limit, and the desk is as it was
abbrev pub Refuses : LimitKind → Options → Problem → DeskState → DeskState → Type 0
Refuses which o p old new = IsOver which o p × Reaches same old new

-- a write failed on the way
pub record IsCutOff (o : Options) (p : Problem) (names : FileNames) (old new : DeskState) : Type 0 where
  pub encodable : IsEncodable o p
  pub stops : StopsEncoding o p names old new

-- Memory was wanting: before a file was made; or, of a problem that is encoded, in the CNF; or, once that was whole, in the derivation.
pub data WantsMemory (o : Options) (p : Problem) (names : FileNames) (old new : DeskState) : Type 0 where
  not_made : Reaches same old new → WantsMemory o p names old new
  in_cnf : IsEncodable o p → LeavesPart 0 names.cnf (problem_text o p) old new → WantsMemory o p names old new
  in_proof : IsEncodable o p → AfterCnf o p names (λ proof between. LeavesPart 1 proof (derivation_text o p) between new) old → WantsMemory o p names old new
