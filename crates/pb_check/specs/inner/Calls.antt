-- What each part of checking says of the desk, of its readers and of the answer.
use Rattle.std.specs.Prelude.{◌≡◌, ℕ, List, length, Option, Ok, Err}
use Rattle.pb_base.specs.declared.expected.Expected.TheVariants.{StepWord}
use Rattle.pb_base.specs.declared.file.File.TheVariants.{Proof}
use Rattle.pb_desk.specs.Desk.{DeskState}
use Rattle.pb_desk.specs.LineReading.{TakesAhead}
use Rattle.pb_desk.specs.LineReaders.{Reader}
use Rattle.pb_desk.specs.TwoSlots.{ReadsBoth}
use Rattle.pb_dimacs.specs.CnfReaders.{CnfReader}
use Rattle.pb_dimacs.specs.CnfRows.{line_start}
use Rattle.pb_dimacs.specs.Cursors.{rows_left}
use Rattle.pb_steps.specs.declared.step.Step.{Step}
use Rattle.pb_steps.specs.Database.{Database, loaded_database}
use Rattle.pb_check.specs.declared.verdict.Verdict.{Verdict}
use Rattle.pb_check.specs.declared.verdict.Verdict.TheVariants.{Accepted}
use Rattle.pb_check.specs.declared.verdict.CheckFault.{CheckFault}
use Rattle.pb_check.specs.declared.verdict.CheckFault.TheVariants.{Refused}
use Rattle.pb_check.specs.declared.taking.Taken.{Taken}
use Rattle.pb_check.specs.Turns.{Answer, Task, Stage, Clauses, at_out, at_end, last_turn, next_in, turn_by}
use Rattle.pb_check.specs.Turns.Stage.{head_wanted, count_wanted, at_steps, ended}
use Rattle.pb_check.specs.Turns.Turn.{stop}
use Rattle.pb_check.specs.Walk.{Walks}
use Rattle.pb_check.specs.inner.Phases.{StopsOne, StopsBoth, NextSays, Leads, clauses_of, FollowsRows, TurnGives, LineGives, OnLine, StepsGive, TaskOver, TaskFrom, LinesAnswer}

-- ---- the next line that says something

abbrev pub ReadsStep : Option Step → Reader → Reader → DeskState → DeskState → Type 0
ReadsStep next old new a b = TakesAhead old.slot old.ahead new.ahead a b (λ text rest. NextSays next new (rows_left old text) (rows_left new rest))

abbrev pub MissesStep : CheckFault → Reader → Reader → DeskState → DeskState → Type 0
MissesStep fault old new a b = StopsOne (Task × Stage × Clauses) fault old new a b (λ x text answer. Walks x.0 x.1 x.2 (rows_left old text) answer)

-- where the derivation may not end yet
abbrev pub IsAwaited : Stage → Type 0
IsAwaited stage = (number : ℕ) → last_turn stage number ≡ stop (Err (Refused Proof (line_start number) StepWord))

abbrev pub Awaited : Type 0
Awaited = (task : Task) × (stage : Stage) × (clauses : Clauses) × IsAwaited stage

abbrev pub MissesDue : CheckFault → Reader → Reader → DeskState → DeskState → Type 0
MissesDue fault old new a b = StopsOne Awaited fault old new a b (λ x text answer. Walks x.0 x.1 x.2 (rows_left old text) answer)

-- ---- the lines that have a place

-- whatever the clauses, that is so of the answer at the stage
abbrev pub StopsStage : Stage → CheckFault → Reader → Reader → DeskState → DeskState → Type 0
StopsStage stage fault old new a b = StopsOne (Task × Clauses) fault old new a b (λ x text answer. Walks x.0 stage x.1 (rows_left old text) answer)

abbrev pub TakesHead : Reader → Reader → DeskState → DeskState → Type 0
TakesHead old new a b = TakesAhead old.slot old.ahead new.ahead a b (λ text rest. Leads count_wanted (rows_left new rest) head_wanted (rows_left old text))

-- behind the number of constraints, the steps begin over the database of those that are loaded
abbrev pub CountLeads : ℕ → Reader → Reader → List ℕ → List ℕ → Type 0
CountLeads loaded old new text rest =
    (task : Task) (clauses : Clauses) (a : Answer) → length task.loaded ≡ loaded
    → Walks task (at_steps (loaded_database task.original task.vars task.loaded)) clauses (rows_left new rest) a → Walks task count_wanted clauses (rows_left old text) a

abbrev pub TakesCount : ℕ → Reader → Reader → DeskState → DeskState → Type 0
TakesCount loaded old new a b = TakesAhead old.slot old.ahead new.ahead a b (CountLeads loaded old new)

-- over so many constraints
abbrev pub TaskOf : ℕ → Type 0
TaskOf loaded = (task : Task) × (clauses : Clauses) × (length task.loaded ≡ loaded)

abbrev pub StopsCount : ℕ → CheckFault → Reader → Reader → DeskState → DeskState → Type 0
StopsCount loaded fault old new a b = StopsOne (TaskOf loaded) fault old new a b (λ x text answer. Walks x.0 count_wanted x.1 (rows_left old text) answer)

abbrev pub TakesRest : Reader → Reader → DeskState → DeskState → Type 0
TakesRest old new a b = TakesAhead old.slot old.ahead new.ahead a b (λ text rest. (task : Task) (clauses : Clauses) → Walks task ended clauses (rows_left old text) (Ok Accepted))

-- ---- a step

-- a constraint is put out as the next clause of what is left of the CNF, or that clause has a fault
abbrev pub PutsOut : Taken → ℕ → CnfReader → Database → CnfReader → Database → DeskState → DeskState → Type 0
PutsOut got id cnf db cnf' db' a b =
    TakesAhead cnf.lines.slot cnf.lines.ahead cnf'.lines.ahead a b (λ text rest. (task : Task) (number : ℕ) → task.vars ≡ cnf.vars
    → TurnGives got task number (at_out db id (clauses_of cnf text) (next_in task (clauses_of cnf text))) db' (clauses_of cnf' rest))

abbrev pub StopsOut : CheckFault → ℕ → CnfReader → Database → CnfReader → DeskState → DeskState → Type 0
StopsOut fault id cnf db cnf' a b =
    StopsOne (OnLine cnf) fault cnf.lines cnf'.lines a b (λ x text answer. FollowsRows x.task x.number (at_out db id (clauses_of cnf text) (next_in x.task (clauses_of cnf text))) (rows_left x.proof x.text) answer)

-- the steps end, where none of the CNF's clauses is left, or what is left has a fault
abbrev pub EndsSteps : Taken → CnfReader → CnfReader → DeskState → DeskState → Type 0
EndsSteps got cnf cnf' a b =
    TakesAhead cnf.lines.slot cnf.lines.ahead cnf'.lines.ahead a b (λ text rest. (task : Task) (number : ℕ) (db : Database) → task.vars ≡ cnf.vars
    → TurnGives got task number (at_end number (clauses_of cnf text) (next_in task (clauses_of cnf text))) db (clauses_of cnf' rest))

abbrev pub StopsEnd : CheckFault → CnfReader → CnfReader → DeskState → DeskState → Type 0
StopsEnd fault cnf cnf' a b =
    StopsOne (OnLine cnf) fault cnf.lines cnf'.lines a b (λ x text answer. FollowsRows x.task x.number (at_end x.number (clauses_of cnf text) (next_in x.task (clauses_of cnf text))) (rows_left x.proof x.text) answer)

-- what the last line says is taken among the steps
abbrev pub TakesStep : Taken → Step → Reader → CnfReader → Database → CnfReader → Database → DeskState → DeskState → Type 0
TakesStep got step proof cnf db cnf' db' a b =
    TakesAhead cnf.lines.slot cnf.lines.ahead cnf'.lines.ahead a b (λ text rest. (task : Task) → task.vars ≡ cnf.vars
    → TurnGives got task proof.number (turn_by task (at_steps db) (clauses_of cnf text) proof.number proof.line step) db' (clauses_of cnf' rest))

abbrev pub StopsStep : CheckFault → Step → Reader → CnfReader → Database → CnfReader → DeskState → DeskState → Type 0
StopsStep fault step proof cnf db cnf' a b =
    StopsOne (OnLine cnf) fault cnf.lines cnf'.lines a b (λ x text answer. FollowsRows x.task proof.number (turn_by x.task (at_steps db) (clauses_of cnf text) proof.number proof.line step) (rows_left x.proof x.text) answer)

-- ---- lines of steps, by both readers

abbrev pub TakesLine : Taken → CnfReader → Database → Reader → CnfReader → Database → Reader → DeskState → DeskState → Type 0
TakesLine got cnf db proof cnf' db' proof' a b = ReadsBoth cnf.lines proof cnf'.lines proof' a b (LineGives got cnf db proof cnf' db' proof')

abbrev pub TakesSteps : Option Verdict → CnfReader → Database → Reader → CnfReader → Reader → DeskState → DeskState → Type 0
TakesSteps verdict cnf db proof cnf' proof' a b = ReadsBoth cnf.lines proof cnf'.lines proof' a b (λ c p c' p'. StepsGive verdict cnf db proof proof' c p p')

abbrev pub StopsSteps : CheckFault → CnfReader → Database → Reader → CnfReader → Reader → DeskState → DeskState → Type 0
StopsSteps fault cnf db proof cnf' proof' a b = StopsBoth (TaskOver cnf) fault cnf.lines proof cnf'.lines proof' a b (λ x c p answer. Walks x.0 (at_steps db) (clauses_of cnf c) (rows_left proof p) answer)

-- ---- all lines

abbrev pub AnswersLines : Verdict → ℕ → CnfReader → Database → Reader → CnfReader → Reader → DeskState → DeskState → Type 0
AnswersLines v loaded cnf db proof cnf' proof' a b = ReadsBoth cnf.lines proof cnf'.lines proof' a b (λ c p c' p'. LinesAnswer cnf db loaded proof c p (Ok v))

abbrev pub StopsLines : CheckFault → ℕ → CnfReader → Database → Reader → CnfReader → Reader → DeskState → DeskState → Type 0
StopsLines fault loaded cnf db proof cnf' proof' a b = StopsBoth (TaskFrom cnf db loaded) fault cnf.lines proof cnf'.lines proof' a b (λ x c p answer. Walks x.0 head_wanted (clauses_of cnf c) (rows_left proof p) answer)
