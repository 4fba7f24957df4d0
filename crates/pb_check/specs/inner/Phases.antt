-- What is left of both texts while a derivation is checked, and what its lines give (our own).
use Rattle.std.specs.Prelude.{◌≡◌, ◌≢◌, ℕ, ◌+◌, List, [], ◌∷◌, ◌++◌, length, Option, Some, None, Result, Ok, Err, Bool, true, false, if◌then◌else◌}
use Rattle.pb_desk.specs.Desk.{DeskState}
use Rattle.pb_desk.specs.LineReading.{TakesAhead, FailsAhead}
use Rattle.pb_desk.specs.LineReaders.{Reader}
use Rattle.pb_dimacs.specs.CnfReaders.{CnfReader, symbols_left}
use Rattle.pb_dimacs.specs.CnfRows.{CnfRow}
use Rattle.pb_dimacs.specs.CnfRows.CnfRow.{plain, too_long, last}
use Rattle.pb_dimacs.specs.Cursors.{rows_left}
use Rattle.pb_steps.specs.declared.fault.StepFault.{StepFault}
use Rattle.pb_steps.specs.declared.step.Step.{Step}
use Rattle.pb_steps.specs.declared.step.Step.TheVariants.{Blank}
use Rattle.pb_steps.specs.Database.{Database, loaded_database}
use Rattle.pb_steps.specs.LineSteps.{step_of}
use Rattle.pb_check.specs.declared.verdict.Verdict.{Verdict}
use Rattle.pb_check.specs.declared.verdict.Verdict.TheVariants.{Rejected}
use Rattle.pb_check.specs.declared.verdict.CheckFault.{CheckFault}
use Rattle.pb_check.specs.declared.verdict.CheckFault.TheVariants.{Refused, Limit, ReadFault, NoMemory}
use Rattle.pb_check.specs.declared.taking.Taken.{Taken}
use Rattle.pb_check.specs.declared.taking.Taken.TheVariants as taken
use Rattle.pb_check.specs.Turns.{Answer, Task, Stage, Clauses, Turn}
use Rattle.pb_check.specs.Turns.Stage.{head_wanted, at_steps, ended}
use Rattle.pb_check.specs.Walk.{Follows, Walks}
use Rattle.pb_desk.specs.TwoSlots.{MissesBoth, ReadsBoth}

-- ---- what is open

-- with something behind these bytes there is an answer
pub record Answered (Comes : List ℕ → Answer → Type 0) (bytes : List ℕ) : Type 0 where
  pub behind : List ℕ
  pub answer : Answer
  pub comes : Comes (bytes ++ behind) answer

-- with something else behind them there is another
pub record IsOpen (Comes : List ℕ → Answer → Type 0) (bytes : List ℕ) : Type 0 where
  pub one : Answered Comes bytes
  pub two : Answered Comes bytes
  pub apart : one.answer ≢ two.answer

-- the same of two texts, which are such as may be
pub record BothAnswered (May : List ℕ → List ℕ → Type 0) (Comes : List ℕ → List ℕ → Answer → Type 0) : Type 0 where
  pub cnf : List ℕ
  pub proof : List ℕ
  pub may : May cnf proof
  pub answer : Answer
  pub comes : Comes cnf proof answer

pub record AreOpen (May : List ℕ → List ℕ → Type 0) (Comes : List ℕ → List ℕ → Answer → Type 0) : Type 0 where
  pub one : BothAnswered May Comes
  pub two : BothAnswered May Comes
  pub apart : one.answer ≢ two.answer

-- ---- stops

-- Why a reader of a slot stopped: a read failed, where what was taken left the answer open; memory was wanting; or this fault is the answer for what is left of the text. The answer is that for each of some circumstances.
abbrev pub StopsOne : (X : Type 0) → CheckFault → Reader → Reader → DeskState → DeskState → (X → List ℕ → Answer → Type 0) → Type 0
StopsOne X ReadFault old new a b Comes = FailsAhead old.slot old.ahead a b (λ bytes. (x : X) → IsOpen (Comes x) bytes)
StopsOne X NoMemory old new a b Comes = TakesAhead old.slot old.ahead new.ahead a b (λ text rest. Unit {0})
StopsOne X (Refused file place e) old new a b Comes = TakesAhead old.slot old.ahead new.ahead a b (λ text rest. (x : X) → Comes x text (Err (Refused file place e)))
StopsOne X (Limit file place which) old new a b Comes = TakesAhead old.slot old.ahead new.ahead a b (λ text rest. (x : X) → Comes x text (Err (Limit file place which)))

-- the same of readers of two slots
abbrev pub StopsBoth : (X : Type 0) → CheckFault → Reader → Reader → Reader → Reader → DeskState → DeskState → (X → List ℕ → List ℕ → Answer → Type 0) → Type 0
StopsBoth X ReadFault cnf proof cnf' proof' a b Comes = MissesBoth cnf proof a b (λ May. (x : X) → AreOpen May (Comes x))
StopsBoth X NoMemory cnf proof cnf' proof' a b Comes = ReadsBoth cnf proof cnf' proof' a b (λ c p c' p'. Unit {0})
StopsBoth X (Refused file place e) cnf proof cnf' proof' a b Comes = ReadsBoth cnf proof cnf' proof' a b (λ c p c' p'. (x : X) → Comes x c p (Err (Refused file place e)))
StopsBoth X (Limit file place which) cnf proof cnf' proof' a b Comes = ReadsBoth cnf proof cnf' proof' a b (λ c p c' p'. (x : X) → Comes x c p (Err (Limit file place which)))

-- ---- lines

abbrev pub says_nothing : Step → Bool
says_nothing Blank = true
says_nothing _ = false

-- the rows from the first line on that says something
abbrev pub unless_blank : Result Step StepFault → List CnfRow → List CnfRow → List CnfRow
unless_blank (Ok step) later rows = if says_nothing step then later else rows
unless_blank (Err fault) later rows = rows

abbrev pub behind_blank : List CnfRow → List CnfRow
behind_blank [] = []
behind_blank (plain number line ∷ rows) = unless_blank (step_of line) (behind_blank rows) (plain number line ∷ rows)
behind_blank (too_long number which ∷ rows) = too_long number which ∷ rows
behind_blank (last number ∷ rows) = last number ∷ rows

-- the next line that says something says the step, and these rows stand behind it; or the text has ended
abbrev pub NextSays : Option Step → Reader → List CnfRow → List CnfRow → Type 0
NextSays (Some step) new rows rest = (step_of new.line ≡ Ok step) × (behind_blank rows ≡ plain new.number new.line ∷ rest)
NextSays None new rows rest = behind_blank rows ≡ last (new.number + 1) ∷ []

-- whatever is to come, the next line has this fault
abbrev pub NextStops : List CnfRow → CheckFault → Type 0
NextStops rows fault = (task : Task) (stage : Stage) (clauses : Clauses) → Walks task stage clauses rows (Err fault)

-- ---- stages

-- the clauses that are to come, where that is left of the CNF
abbrev pub clauses_of : CnfReader → List ℕ → Clauses
clauses_of r text = record { left = r.left; symbols = symbols_left r text }

-- an answer from a stage on, by any clauses, is one from another stage on
abbrev pub Leads : Stage → List CnfRow → Stage → List CnfRow → Type 0
Leads later rest stage rows = (task : Task) (clauses : Clauses) (a : Answer) → Walks task later clauses rest a → Walks task stage clauses rows a

-- the answer from a turn on, in front of these rows
abbrev pub FollowsRows : Task → ℕ → Turn → List CnfRow → Answer → Type 0
FollowsRows task number turn rows a = Follows number turn (λ s c. Walks task s c rows a) a

-- what a step gave, by the turn that its line asks: the steps go on, over this database and with these clauses; they end; or the step is not allowed
abbrev pub TurnGives : Taken → Task → ℕ → Turn → Database → Clauses → Type 0
TurnGives taken.On task number turn db clauses = (rows : List CnfRow) (a : Answer) → Walks task (at_steps db) clauses rows a → FollowsRows task number turn rows a
TurnGives taken.Last task number turn db clauses = (rows : List CnfRow) (a : Answer) → ((c : Clauses) → Walks task ended c rows a) → FollowsRows task number turn rows a
TurnGives (taken.Denied d) task number turn db clauses = (rows : List CnfRow) → FollowsRows task number turn rows (Ok (Rejected number d))

-- a line of a derivation beside a CNF: over which constraints, its number, and what a reader has left behind it
pub record OnLine (cnf : CnfReader) : Type 0 where
  pub task : Task
  pub number : ℕ
  pub proof : Reader
  pub text : List ℕ
  pub same_vars : task.vars ≡ cnf.vars

-- what a line among the steps gave, from there on and from here on
abbrev pub LineGives : Taken → CnfReader → Database → Reader → CnfReader → Database → Reader → List ℕ → List ℕ → List ℕ → List ℕ → Type 0
LineGives taken.On cnf db proof cnf' db' proof' c p c' p' =
    (task : Task) (a : Answer) → task.vars ≡ cnf.vars → Walks task (at_steps db') (clauses_of cnf' c') (rows_left proof' p') a → Walks task (at_steps db) (clauses_of cnf c) (rows_left proof p) a
LineGives taken.Last cnf db proof cnf' db' proof' c p c' p' =
    (task : Task) (a : Answer) → task.vars ≡ cnf.vars → ((cs : Clauses) → Walks task ended cs (rows_left proof' p') a) → Walks task (at_steps db) (clauses_of cnf c) (rows_left proof p) a
LineGives (taken.Denied d) cnf db proof cnf' db' proof' c p c' p' =
    (task : Task) → task.vars ≡ cnf.vars → Walks task (at_steps db) (clauses_of cnf c) (rows_left proof p) (Ok (Rejected proof'.number d))

-- what the steps gave, up to the line that ends them or is not allowed
abbrev pub StepsGive : Option Verdict → CnfReader → Database → Reader → Reader → List ℕ → List ℕ → List ℕ → Type 0
StepsGive None cnf db proof proof' c p p' =
    (task : Task) (a : Answer) → task.vars ≡ cnf.vars → ((cs : Clauses) → Walks task ended cs (rows_left proof' p') a) → Walks task (at_steps db) (clauses_of cnf c) (rows_left proof p) a
StepsGive (Some v) cnf db proof proof' c p p' = (task : Task) → task.vars ≡ cnf.vars → Walks task (at_steps db) (clauses_of cnf c) (rows_left proof p) (Ok v)

-- a task over so many variables as the CNF has
abbrev pub TaskOver : CnfReader → Type 0
TaskOver cnf = (task : Task) × (task.vars ≡ cnf.vars)

-- the answer from the first line on, where the database is that of the loaded constraints
pub record IsTask (task : Task) (vars count : ℕ) (db : Database) : Type 0 where
  pub same_vars : task.vars ≡ vars
  pub same_count : length task.loaded ≡ count
  pub database : db ≡ loaded_database task.original task.vars task.loaded

abbrev pub TaskFrom : CnfReader → Database → ℕ → Type 0
TaskFrom cnf db count = (task : Task) × IsTask task cnf.vars count db

abbrev pub LinesAnswer : CnfReader → Database → ℕ → Reader → List ℕ → List ℕ → Answer → Type 0
LinesAnswer cnf db count proof c p answer = (task : Task) → IsTask task cnf.vars count db → Walks task head_wanted (clauses_of cnf c) (rows_left proof p) answer
