-- What is claimed of lines that are read and written (our own).
use Rattle.std.specs.Prelude.{◌≡◌, ◌↔◌, ◌+◌, ◌≤◌, ℕ, List, length, Ok, Err}
use Rattle.pb_base.specs.Words.{words_of}
use Rattle.pb_steps.specs.declared.fault.StepFault.{StepFault}
use Rattle.pb_steps.specs.declared.step.Step.{Step}
use Rattle.pb_steps.specs.Sayable.{IsSayable}
use Rattle.pb_steps.specs.StepGrammar.{SaysStep, WordsSay}
use Rattle.pb_steps.specs.StepText.{step_line}
use Rattle.pb_steps.specs.StepSizes.{step_size}
use Rattle.pb_steps.specs.LineSteps.{step_of}
use Rattle.pb_steps.specs.laws.FirstWords.{column_of, IsMarkedLike, StandsFirst}

-- what is read is what is said
abbrev pub ReadsWhatIsSaid : Type 0
ReadsWhatIsSaid = (line : List ℕ) (s : Step) → (step_of line ≡ Ok s) ↔ SaysStep line s

-- the line that is written of a step says it
abbrev pub IsReadBack : Step → Type 0
IsReadBack s = step_of (step_line s) ≡ Ok s

-- so it is of each step that some line says
abbrev pub WrittenLineReads : Type 0
WrittenLineReads = (s : Step) → IsSayable s → IsReadBack s

-- each step has a line of its own
abbrev pub LinesDiffer : Type 0
LinesDiffer = (s t : Step) → IsSayable s → IsSayable t → step_line s ≡ step_line t → s ≡ t

-- a line with a fault says no step
abbrev pub StepFaultsSayNothing : Type 0
StepFaultsSayNothing = (line : List ℕ) (fault : StepFault) → step_of line ≡ Err fault → (s : Step) → ¬ (SaysStep line s)

-- the words say some step
abbrev pub IsStepLine : List (List ℕ) → Type 0
IsStepLine ws = (s : Step) × WordsSay ws s

-- a fault stands at the first word behind which no line goes on
abbrev pub StepFaultsStandFirst : Type 0
StepFaultsStandFirst = (line : List ℕ) (fault : StepFault) → step_of line ≡ Err fault → StandsFirst IsStepLine IsMarkedLike (length line + 1) (words_of line) (column_of fault)

-- no line is longer than its step's parts say, with its LF
abbrev pub LinesAreBounded : Type 0
LinesAreBounded = (s : Step) → IsSayable s → length (step_line s) + 1 ≤ step_size s
