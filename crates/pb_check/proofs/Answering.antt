-- Checking has one answer.
use Rattle.std.proofs.Common.{◌≡◌, ◌+◌, ◌-◌, inl, inr, ℕ, Bool, true, false, cond, List, [], ◌∷◌, length, refl, ap, sym, ◌∙◌, subst, eqb, leb}
use Rattle.std.specs.Prelude.{Option, Some, None, Result, Ok, Err}
use Rattle.pb_base.specs.declared.limit.LimitKind.{LimitKind}
use Rattle.pb_base.specs.declared.literal.Lit.{Lit}
use Rattle.pb_base.specs.declared.problem.Problem.{Problem}
use Rattle.pb_base.specs.Problems.{originals}
use Rattle.pb_desk.specs.declared.limits.LineLimits.{LineLimits}
use Rattle.pb_base.specs.Lines.{first_line}
use Rattle.pb_dimacs.specs.CnfRows.{CnfRow, starts_from, limit_at, row_or, rows_from, rows_of, cnf_limits}
use Rattle.pb_desk.specs.LineReaders.{Reader}
use Rattle.pb_dimacs.specs.Cursors.{rows_left}
use Rattle.pb_dimacs.specs.CnfRows.CnfRow.{last}
use Rattle.pb_dimacs.specs.CnfSymbols.{Next, Start, start_of}
use Rattle.pb_dimacs.specs.CnfSymbols.Next.{clause, nothing, refused}
use Rattle.pb_dimacs.specs.CnfSymbols.Start.{told, wrong}
use Rattle.pb_steps.specs.declared.denied.Denied.{Denied}
use Rattle.pb_steps.specs.declared.fault.StepFault.{StepFault}
use Rattle.pb_steps.specs.declared.step.Step.{Step}
use Rattle.pb_steps.specs.declared.step.Step.TheVariants.{Blank, Head, Loaded, Pol, Rup, Red, Del, Out, End}
use Rattle.pb_steps.specs.Steps.{IsRule, IsSpelled}
use Rattle.pb_steps.specs.Database.{Database, loaded_database}
use Rattle.pb_steps.specs.LineSteps.{step_of}
use Rattle.pb_steps.proofs.Denying.{allowed_or_denied}
use Rattle.pb_steps.proofs.Spelling.{all_spelled}
use Rattle.pb_check.specs.declared.verdict.Verdict.TheVariants.{Rejected}
use Rattle.pb_check.specs.Turns.{Answer, Task, Stage, Clauses, Turn, at_out, at_end, next_in, read_turn, turn_of, turn_by}
use Rattle.pb_check.specs.Faults.{of_cnf, of_step, miscounted_line}
use Rattle.pb_check.specs.Turns.Stage.{head_wanted, count_wanted, at_steps, ended}
use Rattle.pb_check.specs.Turns.Turn.{go, stop, test}
use Rattle.pb_check.specs.Walk.{number_of, Follows, Walks, task_of, WalksFrom, WalksBy}
use Rattle.pb_check.specs.WalkLaws.{WalkHasOneAnswer}

-- ---- no other answer

follows-only : (task : Task) (rows : List CnfRow) (number : ℕ) (turn : Turn) (a b : Answer) → ((s : Stage) (c : Clauses) → Walks task s c rows a → Walks task s c rows b → a ≡ b) →
    Follows number turn (λ s c. Walks task s c rows a) a → Follows number turn (λ s c. Walks task s c rows b) b → a ≡ b
follows-only task rows number (go stage clauses) a b only v w = only stage clauses v w
follows-only task rows number (stop end) a b only v w = v ∙ sym w
follows-only task rows number (test db step due clauses) a b only (inl t) (inl u) =
    let same = allowed_or_denied.one_database db step due t.0 u.0 t.1 u.1 in
    only (at_steps t.0) clauses t.2 (subst (λ (d : Database). Walks task (at_steps d) clauses rows b) (sym same) u.2)
follows-only task rows number (test db step due clauses) a b only (inl t) (inr r) = absurd (allowed_or_denied.not_both db step due (t.0, t.1) (r.0, r.1))
follows-only task rows number (test db step due clauses) a b only (inr r) (inl u) = absurd (allowed_or_denied.not_both db step due (u.0, u.1) (r.0, r.1))
follows-only task rows number (test db step due clauses) a b only (inr r) (inr q) =
    r.2 ∙ (ap (λ (d : Denied). Ok (Rejected number d)) (allowed_or_denied.one_cause db step due r.0 q.0 r.1 q.1) ∙ sym q.2)

walks-only : (task : Task) (rows : List CnfRow) (stage : Stage) (clauses : Clauses) (a b : Answer) → Walks task stage clauses rows a → Walks task stage clauses rows b → a ≡ b
walks-only task [] stage clauses a b v w = absurd v
walks-only task (row ∷ rows) stage clauses a b v w =
    follows-only task rows (number_of row) (turn_of task stage clauses row) a b (λ s c. walks-only task rows s c a b) v w

-- ---- an answer

abbrev pub SomeAnswer : Task → Stage → Clauses → List CnfRow → Type 0
SomeAnswer task stage clauses rows = (answer : Answer) × Walks task stage clauses rows answer

abbrev pub SomeTurn : Task → List CnfRow → ℕ → Turn → Type 0
SomeTurn task rows number turn = (answer : Answer) × Follows number turn (λ s c. Walks task s c rows answer) answer

-- there is one from each later place on
abbrev pub Later : Task → List CnfRow → Type 0
Later task rows = (s : Stage) (c : Clauses) → SomeAnswer task s c rows

stopped : (a : Answer) → (answer : Answer) × (answer ≡ a)
stopped a = (a, refl)

some-test : (task : Task) (rows : List CnfRow) (number : ℕ) (db : Database) (step : Step) (next : Option (List Lit)) (clauses : Clauses) → IsRule step → IsSpelled step → Later task rows → SomeTurn task rows number (test db step next clauses)
some-test task rows number db step next clauses rule spells later =
    elim (allowed_or_denied.either db step next rule spells) [
      | inl allowed ↦ let on = later (at_steps allowed.0) clauses in (on.0, inl (allowed.0, allowed.1, on.1))
      | inr denied ↦ (Ok (Rejected number denied.0), inr (denied.0, denied.1, refl))
    ]

pub some-out : (task : Task) (rows : List CnfRow) (number : ℕ) (db : Database) (id : ℕ) (clauses : Clauses) → IsSpelled (Out id) → Later task rows → (n : Next) → SomeTurn task rows number (at_out db id clauses n)
some-out task rows number db id clauses spells later (clause ls rest) = some-test task rows number db (Out id) (Some ls) (record { left = clauses.left - 1; symbols = rest }) tt spells later
some-out task rows number db id clauses spells later nothing = some-test task rows number db (Out id) None clauses tt spells later
some-out task rows number db id clauses spells later (refused fault) = stopped (Err (of_cnf fault))

pub some-end : (task : Task) (rows : List CnfRow) (number : ℕ) (clauses : Clauses) → Later task rows → (n : Next) → SomeTurn task rows number (at_end number clauses n)
some-end task rows number clauses later (clause ls rest) = stopped _
some-end task rows number clauses later nothing = later ended clauses
some-end task rows number clauses later (refused fault) = stopped (Err (of_cnf fault))

some-step : (task : Task) (rows : List CnfRow) (number : ℕ) (line : List ℕ) (db : Database) (clauses : Clauses) → Later task rows → (s : Step) → IsSpelled s → SomeTurn task rows number (turn_by task (at_steps db) clauses number line s)
some-step task rows number line db clauses later Blank spells = later (at_steps db) clauses
some-step task rows number line db clauses later Head spells = stopped _
some-step task rows number line db clauses later (Loaded count) spells = stopped _
some-step task rows number line db clauses later (Pol ops) spells = some-test task rows number db (Pol ops) None clauses tt spells later
some-step task rows number line db clauses later (Rup ts right ids) spells = some-test task rows number db (Rup ts right ids) None clauses tt spells later
some-step task rows number line db clauses later (Red ts right sets) spells = some-test task rows number db (Red ts right sets) None clauses tt spells later
some-step task rows number line db clauses later (Del ids) spells = some-test task rows number db (Del ids) None clauses tt spells later
some-step task rows number line db clauses later (Out id) spells = some-out task rows number db id clauses spells later (next_in task clauses)
some-step task rows number line db clauses later End spells = some-end task rows number clauses later (next_in task clauses)

some-head : (task : Task) (rows : List CnfRow) (number : ℕ) (line : List ℕ) (clauses : Clauses) → Later task rows → (s : Step) → SomeTurn task rows number (turn_by task head_wanted clauses number line s)
some-head task rows number line clauses later Blank = later head_wanted clauses
some-head task rows number line clauses later Head = later count_wanted clauses
some-head task rows number line clauses later _ = stopped _

some-count : (task : Task) (rows : List CnfRow) (number : ℕ) (line : List ℕ) (clauses : Clauses) → Later task rows → (s : Step) → SomeTurn task rows number (turn_by task count_wanted clauses number line s)
some-count task rows number line clauses later Blank = later count_wanted clauses
some-count task rows number line clauses later (Loaded count) = by_test (eqb count (length task.loaded)) where
  by_test : (b : Bool) → SomeTurn task rows number (cond {A = Turn} b (go (at_steps (loaded_database task.original task.vars task.loaded)) clauses) (stop (Err (miscounted_line number line))))
  by_test true = later (at_steps (loaded_database task.original task.vars task.loaded)) clauses
  by_test false = stopped _
some-count task rows number line clauses later _ = stopped _

some-ended : (task : Task) (rows : List CnfRow) (number : ℕ) (line : List ℕ) (clauses : Clauses) → Later task rows → (s : Step) → SomeTurn task rows number (turn_by task ended clauses number line s)
some-ended task rows number line clauses later Blank = later ended clauses
some-ended task rows number line clauses later _ = stopped _

some-read : (task : Task) (rows : List CnfRow) (number : ℕ) (line : List ℕ) (clauses : Clauses) → Later task rows → (stage : Stage) (r : Result Step StepFault) → step_of line ≡ r → SomeTurn task rows number (read_turn task stage clauses number line r)
some-read task rows number line clauses later stage (Err fault) e = stopped (Err (of_step number fault))
some-read task rows number line clauses later head_wanted (Ok s) e = some-head task rows number line clauses later s
some-read task rows number line clauses later count_wanted (Ok s) e = some-count task rows number line clauses later s
some-read task rows number line clauses later (at_steps db) (Ok s) e = some-step task rows number line db clauses later s (all_spelled (Ok s) line e)
some-read task rows number line clauses later ended (Ok s) e = some-ended task rows number line clauses later s

some-last : (task : Task) (stage : Stage) (number : ℕ) (clauses : Clauses) → SomeAnswer task stage clauses (last number ∷ [])
some-last task head_wanted number clauses = stopped _
some-last task count_wanted number clauses = stopped _
some-last task (at_steps db) number clauses = stopped _
some-last task ended number clauses = stopped _

some-row : (task : Task) (rows : List CnfRow) (number : ℕ) (line : List ℕ) → Later task rows → (limit : Option LimitKind) → Later task (row_or limit number line rows)
some-row task rows number line later (Some which) stage clauses = stopped _
some-row task rows number line later None stage clauses = some-read task rows number line clauses later stage (step_of line) refl

some-from : (task : Task) (limits : LineLimits) (total : ℕ) (starts : List (List ℕ)) (number : ℕ) → Later task (rows_from limits total number starts)
some-from task limits total [] number stage clauses = some-last task stage (number + 1) clauses
some-from task limits total (bytes ∷ starts) number stage clauses =
    some-row task (rows_from limits total (number + 1) starts) (number + 1) (first_line bytes) (some-from task limits total starts (number + 1)) (limit_at limits total number bytes) stage clauses

-- of what a reader has left
pub some-left : (task : Task) (r : Reader) (text : List ℕ) → Later task (rows_left r text)
some-left task r text = some-from task r.limits (r.at + length text) (starts_from true text) r.number

-- ---- of the texts

pub some-start : (p : Problem) (rows : List CnfRow) → ((task : Task) → Later task rows) → (s : Start) → (answer : Answer) × WalksBy p rows s answer
some-start p rows later (told head symbols) = by_test (leb (originals p) head.vars) where
  by_test : (b : Bool) → (answer : Answer) × WalksFrom p rows head symbols b answer
  by_test true = later (task_of p head) head_wanted (record { left = head.clauses; symbols = symbols })
  by_test false = stopped _
some-start p rows later (wrong fault) = stopped (Err (of_cnf fault))

some-walk : (p : Problem) (proof : List ℕ) (s : Start) → (answer : Answer) × WalksBy p (rows_of proof) s answer
some-walk p proof s = some-start p (rows_of proof) (λ task. some-from task cnf_limits (length proof) (starts_from true proof) 0) s

only-walk : (p : Problem) (proof : List ℕ) (s : Start) (a b : Answer) → WalksBy p (rows_of proof) s a → WalksBy p (rows_of proof) s b → a ≡ b
only-walk p proof (told head symbols) a b v w = by_test (leb (originals p) head.vars) v w where
  by_test : (t : Bool) → WalksFrom p (rows_of proof) head symbols t a → WalksFrom p (rows_of proof) head symbols t b → a ≡ b
  by_test true v w = walks-only (task_of p head) (rows_of proof) head_wanted (record { left = head.clauses; symbols = symbols }) a b v w
  by_test false v w = v ∙ sym w
only-walk p proof (wrong fault) a b v w = v ∙ sym w

pub walk_has_one_answer : WalkHasOneAnswer
walk_has_one_answer = record {
  some = λ p cnf proof. some-walk p proof (start_of (rows_of cnf));
  only = λ p cnf proof a b v w. only-walk p proof (start_of (rows_of cnf)) a b v w;
}
