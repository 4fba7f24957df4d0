-- What a checker of LRAT lines has taken so far, and what a line makes of it.
use Rattle.std.specs.Prelude.{◌≡◌, ◌≢◌, ℕ, ◌+◌, ◌==◌, nat_le, Bool, not, ◌||◌, if◌then◌else◌, List, [], ◌∷◌, ◌++◌, length, filter, Option, Some, None, option_map, unwrap_or, Result, Ok, Err}
use Rattle.std.specs.List.{list_any}
use Rattle.std.specs.Option.{option_or}
use Rattle.std.specs.Result.{result_map_both}
use Rattle.pb_base.specs.declared.literal.Lit.{Lit}
use Rattle.pb_lrat.specs.declared.denied.LratDenied.{LratDenied}
use Rattle.pb_lrat.specs.declared.denied.LratDenied.TheVariants.{OldId, UnknownHint, NoConflict}
use Rattle.pb_lrat.specs.declared.fault.LratFault.{LratFault}
use Rattle.pb_lrat.specs.declared.fault.LratFault.TheVariants as fault
use Rattle.pb_lrat.specs.declared.said.Said.{Said}
use Rattle.pb_lrat.specs.declared.said.Said.TheVariants.{Nothing, Adds, Deletes}
use Rattle.pb_steps.specs.declared.fault.StepFault.{StepFault}
use Rattle.pb_steps.specs.declared.fault.StepFault.TheVariants as step_fault
use Rattle.pb_steps.specs.LineWords.{and_then}
use Rattle.pb_lrat.specs.LratLines.{said_of}
use Rattle.pb_lrat.specs.Hints.{Kept, first_missing, clauses_at, follows, is_nothing}

-- How many variables there are, the greatest id so far, the live clauses in the order of their ids, and whether an empty clause was among those that came.
pub record LratState : Type 0 where
  pub vars : ℕ
  pub last : ℕ
  pub live : List Kept
  pub refuted : Bool

-- clauses with their ids, which count up
abbrev pub numbered : ℕ → List (List Lit) → List Kept
numbered id [] = []
numbered id (ls ∷ clauses) = record { id = id; clause = ls } ∷ numbered (id + 1) clauses

-- the clauses of a CNF have the ids from 1 on
abbrev pub started : ℕ → List (List Lit) → LratState
started vars clauses = record { vars = vars; last = length clauses; live = numbered 1 clauses; refuted = list_any is_nothing clauses }

-- why a clause may not be added, if so
abbrev pub denied : LratState → ℕ → List Lit → List ℕ → Option LratDenied
denied s id ls hints =
    if nat_le id s.last then Some (OldId id) else option_or (option_map UnknownHint (first_missing s.live hints)) (if follows ls (clauses_at s.live hints) then None else Some NoConflict)

abbrev pub with_clause : LratState → ℕ → List Lit → LratState
with_clause s id ls = record s { last = id; live = s.live ++ record { id = id; clause = ls } ∷ []; refuted = s.refuted || is_nothing ls }

-- ids that are not live are passed over
abbrev pub without : LratState → List ℕ → LratState
without s ids = record s { live = filter (λ k. not (list_any (λ id. k.id == id) ids)) s.live }

abbrev pub after_said : LratState → Said → Result LratState LratFault
after_said s Nothing = Ok s
after_said s (Deletes ids) = Ok (without s ids)
after_said s (Adds id ls hints) = unwrap_or (option_map (λ why. Err (fault.Denied why)) (denied s id ls hints)) (Ok (with_clause s id ls))

-- the fault of a line that is not read
abbrev pub fault_of : StepFault → LratFault
fault_of (step_fault.Token column e) = fault.Token column e
fault_of (step_fault.Limit column which) = fault.Limit column which
fault_of step_fault.NoMemory = fault.NoMemory

-- the state after a line, or the line's first fault, or why it is denied
abbrev pub after_line : LratState → List ℕ → Result LratState LratFault
after_line s line = and_then (after_said s) (result_map_both (λ said. said) fault_of (said_of s.vars line))

-- the same of lines one after another
abbrev pub after_lines : LratState → List (List ℕ) → Result LratState LratFault
after_lines s [] = Ok s
after_lines s (line ∷ lines) = and_then (λ t. after_lines t lines) (after_line s line)

-- what is due, or want of memory
abbrev pub IsDueFault : {A : Type 0} → Result A LratFault → LratFault → Type 0
IsDueFault due f = f ≢ fault.NoMemory → due ≡ Err f
