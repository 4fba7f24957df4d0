-- What is owed of lines that are read.
use Rattle.std.specs.Prelude.{◌≡◌, ◌≢◌, ◌↔◌, ◌+◌, ◌<◌, ◌^◌, ℕ, List, length, Ok, Err}
use Rattle.pb_base.specs.Words.{words_of}
use Rattle.pb_steps.specs.declared.fault.StepFault.{StepFault}
use Rattle.pb_steps.specs.laws.FirstWords.{column_of, StandsFirst}
use Rattle.pb_lrat.specs.declared.fault.LratFault.TheVariants as fault
use Rattle.pb_lrat.specs.declared.said.Said.{Said}
use Rattle.pb_lrat.specs.LratGrammar.{LineTells, WordsTell}
use Rattle.pb_lrat.specs.LratLines.{said_of}
use Rattle.pb_lrat.specs.LratStates.{after_line, LratState}

-- what is read is what is said
abbrev pub ReadsWhatIsTold : Type 0
ReadsWhatIsTold = (vars : ℕ) (line : List ℕ) (said : Said) → vars < 2 ^ 31 → (said_of vars line ≡ Ok said) ↔ LineTells vars line said

-- the words say something
abbrev pub IsLratLine : ℕ → List (List ℕ) → Type 0
IsLratLine vars ws = (said : Said) × WordsTell vars ws said

-- a word is read by itself
abbrev pub IsAnything : List (List ℕ) → List (List ℕ) → List (List ℕ) → Type 0
IsAnything front more left = Unit {0}

-- a fault stands at the first word behind which no line goes on
abbrev pub LratFaultsStandFirst : Type 0
LratFaultsStandFirst = (vars : ℕ) (line : List ℕ) (fault : StepFault) → vars < 2 ^ 31 → said_of vars line ≡ Err fault → StandsFirst (IsLratLine vars) IsAnything (length line + 1) (words_of line) (column_of fault)

-- no line answers want of memory
abbrev pub LinesNeedNoMemory : Type 0
LinesNeedNoMemory = (s : LratState) (line : List ℕ) → s.vars < 2 ^ 31 → after_line s line ≢ Err fault.NoMemory
