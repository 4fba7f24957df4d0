-- Where no length of a text passes its limit, no answer says that one does.
use Rattle.std.proofs.Common.{◌≡◌, ◌-◌, inl, inr, ℕ, Bool, true, false, cond, List, [], ◌∷◌, length, refl, subst, eqb, leb}
use Rattle.std.specs.Prelude.{Result, Ok, Err}
use Rattle.pb_base.specs.declared.expected.Expected.{Expected}
use Rattle.pb_base.specs.declared.file.File.{File}
use Rattle.pb_base.specs.declared.file.File.TheVariants.{Cnf, Proof}
use Rattle.pb_base.specs.declared.place.Place.{Place}
use Rattle.pb_base.specs.declared.problem.Problem.{Problem}
use Rattle.pb_base.specs.Problems.{originals}
use Rattle.pb_desk.specs.Limits.{IsLengthLimit}
use Rattle.pb_dimacs.specs.declared.fault.CnfFault.{CnfFault}
use Rattle.pb_dimacs.specs.declared.fault.CnfFault.TheVariants as cnf_fault
use Rattle.pb_dimacs.specs.declared.head.CnfHead.{CnfHead}
use Rattle.pb_dimacs.specs.CnfRows.{CnfRow, line_start, limit_place}
use Rattle.pb_dimacs.specs.CnfRows.CnfRow.{plain, too_long, last}
use Rattle.pb_dimacs.specs.CnfSymbols.{CnfSymbol, Next, Start}
use Rattle.pb_dimacs.specs.CnfSymbols.Next.{clause, nothing, refused}
use Rattle.pb_dimacs.specs.CnfSymbols.Start.{told, wrong}
use Rattle.pb_dimacs.specs.Within.{AreRowsWithin, AreWithin, IsFaultWithin, IsNextWithin, IsStartWithin}
use Rattle.pb_dimacs.proofs.WithinLemmas.{next_within}
use Rattle.pb_steps.specs.declared.fault.StepFault.{StepFault}
use Rattle.pb_steps.specs.declared.fault.StepFault.TheVariants as step_fault
use Rattle.pb_steps.specs.declared.step.Step.{Step}
use Rattle.pb_steps.specs.declared.step.Step.TheVariants.{Blank, Head, Loaded, Pol, Rup, Red, Del, Out, End}
use Rattle.pb_steps.specs.Database.{Database, loaded_database}
use Rattle.pb_steps.specs.LineSteps.{step_of}
use Rattle.pb_steps.proofs.Searching.{none-some}
use Rattle.pb_check.specs.declared.verdict.Verdict.{Verdict}
use Rattle.pb_check.specs.declared.verdict.CheckFault.TheVariants.{Refused, Limit}
use Rattle.pb_check.specs.Faults.{of_cnf, of_step, miscounted_line}
use Rattle.pb_check.specs.Turns.{Answer, Task, Stage, Clauses, Turn, at_out, at_end, next_in, read_turn, last_turn, turn_by}
use Rattle.pb_check.specs.Turns.Stage.{head_wanted, count_wanted, at_steps, ended}
use Rattle.pb_check.specs.Turns.Turn.{go, stop, test}
use Rattle.pb_check.specs.Walk.{Follows, Walks, task_of, WalksFrom, WalksBy}
use Rattle.pb_check.proofs.StepLimits.{line_fault_within}

-- ---- answers that are not given

-- a limit of a length of the CNF, or of the derivation, is passed
abbrev pub PassesCnf : Answer → Type 0
PassesCnf (Err (Limit Cnf place which)) = IsLengthLimit which
PassesCnf other = ⊥

abbrev pub PassesProof : Answer → Type 0
PassesProof (Err (Limit Proof place which)) = IsLengthLimit which
PassesProof other = ⊥

-- what comes next is no such fault, and fits behind
abbrev FitsNext : (Clauses → Type 0) → (Answer → Type 0) → Next → Type 0
FitsNext Fit Bad (clause ls rest) = (left : ℕ) → Fit (record { left = left; symbols = rest })
FitsNext Fit Bad nothing = Unit {0}
FitsNext Fit Bad (refused fault) = Bad (Err (of_cnf fault)) → ⊥

-- no single line gives such an answer, where the clauses that are to come fit
record IsNotGiven (Fit : Clauses → Type 0) (Bad : Answer → Type 0) : Type 0 where
  verdict : (v : Verdict) → Bad (Ok v) → ⊥
  refusal : (file : File) (place : Place) (e : Expected) → Bad (Err (Refused file place e)) → ⊥
  line : (number : ℕ) (line : List ℕ) (fault : StepFault) → step_of line ≡ Err fault → Bad (Err (of_step number fault)) → ⊥
  next : (task : Task) (clauses : Clauses) → Fit clauses → FitsNext Fit Bad (next_in task clauses)

-- nor does a line that is too long
abbrev AreFine : (Answer → Type 0) → List CnfRow → Type 0
AreFine Bad [] = Unit {0}
AreFine Bad (plain number line ∷ rows) = AreFine Bad rows
AreFine Bad (too_long number which ∷ rows) = (Bad (Err (Limit Proof (limit_place which (line_start number)) which)) → ⊥) × AreFine Bad rows
AreFine Bad (last number ∷ rows) = AreFine Bad rows

-- nor does a turn
abbrev IsFine : (Clauses → Type 0) → (Answer → Type 0) → Turn → Type 0
IsFine Fit Bad (go stage clauses) = Fit clauses
IsFine Fit Bad (stop answer) = Bad answer → ⊥
IsFine Fit Bad (test db step due clauses) = Fit clauses

out_fine : (Fit : Clauses → Type 0) (Bad : Answer → Type 0) (db : Database) (id : ℕ) (clauses : Clauses) (n : Next) → Fit clauses → FitsNext Fit Bad n → IsFine Fit Bad (at_out db id clauses n)
out_fine Fit Bad db id clauses (clause ls rest) fits h = h (clauses.left - 1)
out_fine Fit Bad db id clauses nothing fits h = fits
out_fine Fit Bad db id clauses (refused fault) fits h = h

end_fine : (Fit : Clauses → Type 0) (Bad : Answer → Type 0) → IsNotGiven Fit Bad → (number : ℕ) (clauses : Clauses) (n : Next) → Fit clauses → FitsNext Fit Bad n → IsFine Fit Bad (at_end number clauses n)
end_fine Fit Bad none number clauses (clause ls rest) fits h = none.verdict _
end_fine Fit Bad none number clauses nothing fits h = fits
end_fine Fit Bad none number clauses (refused fault) fits h = h

step_fine : (Fit : Clauses → Type 0) (Bad : Answer → Type 0) → IsNotGiven Fit Bad → (task : Task) (db : Database) (clauses : Clauses) (number : ℕ) (line : List ℕ) (s : Step) → Fit clauses → IsFine Fit Bad (turn_by task (at_steps db) clauses number line s)
step_fine Fit Bad none task db clauses number line Blank fits = fits
step_fine Fit Bad none task db clauses number line Head fits = none.refusal _ _ _
step_fine Fit Bad none task db clauses number line (Loaded count) fits = none.refusal _ _ _
step_fine Fit Bad none task db clauses number line (Pol ops) fits = fits
step_fine Fit Bad none task db clauses number line (Rup ts right ids) fits = fits
step_fine Fit Bad none task db clauses number line (Red ts right sets) fits = fits
step_fine Fit Bad none task db clauses number line (Del ids) fits = fits
step_fine Fit Bad none task db clauses number line (Out id) fits = out_fine Fit Bad db id clauses (next_in task clauses) fits (none.next task clauses fits)
step_fine Fit Bad none task db clauses number line End fits = end_fine Fit Bad none number clauses (next_in task clauses) fits (none.next task clauses fits)

head_fine : (Fit : Clauses → Type 0) (Bad : Answer → Type 0) → IsNotGiven Fit Bad → (task : Task) (clauses : Clauses) (number : ℕ) (line : List ℕ) (s : Step) → Fit clauses → IsFine Fit Bad (turn_by task head_wanted clauses number line s)
head_fine Fit Bad none task clauses number line Blank fits = fits
head_fine Fit Bad none task clauses number line Head fits = fits
head_fine Fit Bad none task clauses number line _ fits = none.refusal _ _ _

count_fine : (Fit : Clauses → Type 0) (Bad : Answer → Type 0) → IsNotGiven Fit Bad → (task : Task) (clauses : Clauses) (number : ℕ) (line : List ℕ) (s : Step) → Fit clauses → IsFine Fit Bad (turn_by task count_wanted clauses number line s)
count_fine Fit Bad none task clauses number line Blank fits = fits
count_fine Fit Bad none task clauses number line (Loaded count) fits = by_test (eqb count (length task.loaded))
  where
    by_test : (b : Bool) → IsFine Fit Bad (cond {A = Turn} b (go (at_steps (loaded_database task.original task.vars task.loaded)) clauses) (stop (Err (miscounted_line number line))))
    by_test true = fits
    by_test false = none.refusal _ _ _
count_fine Fit Bad none task clauses number line _ fits = none.refusal _ _ _

ended_fine : (Fit : Clauses → Type 0) (Bad : Answer → Type 0) → IsNotGiven Fit Bad → (task : Task) (clauses : Clauses) (number : ℕ) (line : List ℕ) (s : Step) → Fit clauses → IsFine Fit Bad (turn_by task ended clauses number line s)
ended_fine Fit Bad none task clauses number line Blank fits = fits
ended_fine Fit Bad none task clauses number line _ fits = none.refusal _ _ _

read_fine : (Fit : Clauses → Type 0) (Bad : Answer → Type 0) → IsNotGiven Fit Bad → (task : Task) (stage : Stage) (clauses : Clauses) (number : ℕ) (line : List ℕ) (r : Result Step StepFault) → step_of line ≡ r → Fit clauses → IsFine Fit Bad (read_turn task stage clauses number line r)
read_fine Fit Bad none task stage clauses number line (Err fault) e fits = none.line number line fault e
read_fine Fit Bad none task head_wanted clauses number line (Ok s) e fits = head_fine Fit Bad none task clauses number line s fits
read_fine Fit Bad none task count_wanted clauses number line (Ok s) e fits = count_fine Fit Bad none task clauses number line s fits
read_fine Fit Bad none task (at_steps db) clauses number line (Ok s) e fits = step_fine Fit Bad none task db clauses number line s fits
read_fine Fit Bad none task ended clauses number line (Ok s) e fits = ended_fine Fit Bad none task clauses number line s fits

last_fine : (Fit : Clauses → Type 0) (Bad : Answer → Type 0) → IsNotGiven Fit Bad → (stage : Stage) (number : ℕ) → IsFine Fit Bad (last_turn stage number)
last_fine Fit Bad none head_wanted number = none.refusal _ _ _
last_fine Fit Bad none count_wanted number = none.refusal _ _ _
last_fine Fit Bad none (at_steps db) number = none.refusal _ _ _
last_fine Fit Bad none ended number = none.verdict _

-- ---- nor do all lines

follows_fine : (Fit : Clauses → Type 0) (Bad : Answer → Type 0) → IsNotGiven Fit Bad → (number : ℕ) (Later : Stage → Clauses → Type 0) (turn : Turn) (answer : Answer) → IsFine Fit Bad turn → ((s : Stage) (c : Clauses) → Fit c → Later s c → Bad answer → ⊥)
    → Follows number turn Later answer → Bad answer → ⊥
follows_fine Fit Bad none number Later (go stage clauses) answer fine later w = later stage clauses fine w
follows_fine Fit Bad none number Later (stop end) answer fine later w = λ bad. fine (subst Bad w bad)
follows_fine Fit Bad none number Later (test db step due clauses) answer fine later (inl taken) = later (at_steps taken.0) clauses fine taken.2
follows_fine Fit Bad none number Later (test db step due clauses) answer fine later (inr rejected) = λ bad. none.verdict _ (subst Bad rejected.2 bad)

walks_fine : (Fit : Clauses → Type 0) (Bad : Answer → Type 0) → IsNotGiven Fit Bad → (task : Task) (rows : List CnfRow) → AreFine Bad rows → (stage : Stage) (clauses : Clauses) (answer : Answer) → Fit clauses → Walks task stage clauses rows answer → Bad answer → ⊥
walks_fine Fit Bad none task [] fine stage clauses answer fits w = absurd w
walks_fine Fit Bad none task (plain number line ∷ rows) fine stage clauses answer fits w =
    follows_fine Fit Bad none number (λ s c. Walks task s c rows answer) (read_turn task stage clauses number line (step_of line)) answer (read_fine Fit Bad none task stage clauses number line (step_of line) refl fits)
    (λ s c h. walks_fine Fit Bad none task rows fine s c answer h) w
walks_fine Fit Bad none task (too_long number which ∷ rows) fine stage clauses answer fits w = λ bad. fine.0 (subst Bad w bad)
walks_fine Fit Bad none task (last number ∷ rows) fine stage clauses answer fits w =
    follows_fine Fit Bad none number (λ s c. Walks task s c rows answer) (last_turn stage number) answer (last_fine Fit Bad none stage number) (λ s c h. walks_fine Fit Bad none task rows fine s c answer h) w

-- ---- the derivation

abbrev AnyClauses : Clauses → Type 0
AnyClauses clauses = Unit {0}

proof_line : (number : ℕ) (line : List ℕ) (fault : StepFault) → step_of line ≡ Err fault → PassesProof (Err (of_step number fault)) → ⊥
proof_line number line (step_fault.Token column e) says h = h
proof_line number line (step_fault.Limit column which) says h = line_fault_within line column which says h
proof_line number line step_fault.NoMemory says h = h

proof_cnf : (fault : CnfFault) → PassesProof (Err (of_cnf fault)) → ⊥
proof_cnf (cnf_fault.Token place e) h = h
proof_cnf (cnf_fault.Limit place which) h = h
proof_cnf cnf_fault.Failed h = h
proof_cnf cnf_fault.NoMemory h = h

proof_next : (n : Next) → FitsNext AnyClauses PassesProof n
proof_next (clause ls rest) = λ left. tt
proof_next nothing = tt
proof_next (refused fault) = proof_cnf fault

proof_fine : (rows : List CnfRow) → AreRowsWithin rows → AreFine PassesProof rows
proof_fine [] h = tt
proof_fine (plain number line ∷ rows) h = proof_fine rows h
proof_fine (too_long number which ∷ rows) h = absurd h
proof_fine (last number ∷ rows) h = proof_fine rows h

-- where its lines are within the limits, the answer is no such limit
pub proof_within : (task : Task) (rows : List CnfRow) → AreRowsWithin rows → (stage : Stage) (clauses : Clauses) (answer : Answer) → Walks task stage clauses rows answer → PassesProof answer → ⊥
proof_within task rows h stage clauses answer =
    walks_fine AnyClauses PassesProof (record { verdict = λ v h. h; refusal = λ file place e h. h; line = proof_line; next = λ task clauses _. proof_next (next_in task clauses) }) task rows (proof_fine rows h) stage clauses answer tt

-- ---- the CNF

abbrev Fits : Clauses → Type 0
Fits clauses = AreWithin clauses.symbols

cnf_line : (number : ℕ) (fault : StepFault) → PassesCnf (Err (of_step number fault)) → ⊥
cnf_line number (step_fault.Token column e) h = h
cnf_line number (step_fault.Limit column which) h = h
cnf_line number step_fault.NoMemory h = h

cnf_fault_fine : (fault : CnfFault) → IsFaultWithin fault → PassesCnf (Err (of_cnf fault)) → ⊥
cnf_fault_fine (cnf_fault.Token place e) h k = k
cnf_fault_fine (cnf_fault.Limit place which) h k = h k
cnf_fault_fine cnf_fault.Failed h k = k
cnf_fault_fine cnf_fault.NoMemory h k = k

cnf_next : (n : Next) → IsNextWithin n → FitsNext Fits PassesCnf n
cnf_next (clause ls rest) h = λ left. h
cnf_next nothing h = tt
cnf_next (refused fault) h = cnf_fault_fine fault h

cnf_fine : (rows : List CnfRow) → AreFine PassesCnf rows
cnf_fine [] = tt
cnf_fine (plain number line ∷ rows) = cnf_fine rows
cnf_fine (too_long number which ∷ rows) = (λ h. h, cnf_fine rows)
cnf_fine (last number ∷ rows) = cnf_fine rows

cnf_not_given : IsNotGiven Fits PassesCnf
cnf_not_given = record {
  verdict = λ v h. h;
  refusal = λ file place e h. h;
  line = λ number line fault says. cnf_line number fault;
  next = λ task clauses h. cnf_next (next_in task clauses) (next_within task.vars clauses.left clauses.symbols h);
}

-- where what is left of it is within the limits, the answer is no such limit
cnf_within : (task : Task) (rows : List CnfRow) (stage : Stage) (clauses : Clauses) (answer : Answer) → AreWithin clauses.symbols → Walks task stage clauses rows answer → PassesCnf answer → ⊥
cnf_within task rows stage clauses answer h = walks_fine Fits PassesCnf cnf_not_given task rows (cnf_fine rows) stage clauses answer h

turn_within : (task : Task) (number : ℕ) (rows : List CnfRow) (turn : Turn) (answer : Answer) → IsFine Fits PassesCnf turn → Follows number turn (λ s c. Walks task s c rows answer) answer → PassesCnf answer → ⊥
turn_within task number rows turn answer fine w =
    follows_fine Fits PassesCnf cnf_not_given number (λ s c. Walks task s c rows answer) turn answer fine (λ s c h v. cnf_within task rows s c answer h v) w

-- the same from a line on that puts the next clause out
pub out_within : (task : Task) (number : ℕ) (rows : List CnfRow) (db : Database) (id : ℕ) (clauses : Clauses) (n : Next) (answer : Answer) → IsNextWithin n → Follows number (at_out db id clauses n) (λ s c. Walks task s c rows answer) answer → PassesCnf answer → ⊥
out_within task number rows db id clauses (clause ls rest) answer h w = turn_within task number rows (at_out db id clauses (clause ls rest)) answer h w
out_within task number rows db id clauses nothing answer h (inl taken) = absurd (none-some taken.1.rule.literals taken.1.rule.is_next)
out_within task number rows db id clauses nothing answer h (inr rejected) = λ bad. subst PassesCnf rejected.2 bad
out_within task number rows db id clauses (refused fault) answer h w = turn_within task number rows (at_out db id clauses (refused fault)) answer (cnf_fault_fine fault h) w

-- ---- behind the steps no clause is asked for

ended_step : (task : Task) (rows : List CnfRow) (c d : Clauses) (answer : Answer) → (Walks task ended c rows answer → Walks task ended d rows answer) → (number : ℕ) (line : List ℕ) (s : Step)
    → Follows number (turn_by task ended c number line s) (λ s c. Walks task s c rows answer) answer → Follows number (turn_by task ended d number line s) (λ s c. Walks task s c rows answer) answer
ended_step task rows c d answer later number line Blank w = later w
ended_step task rows c d answer later number line Head w = w
ended_step task rows c d answer later number line (Loaded count) w = w
ended_step task rows c d answer later number line (Pol ops) w = w
ended_step task rows c d answer later number line (Rup ts right ids) w = w
ended_step task rows c d answer later number line (Red ts right sets) w = w
ended_step task rows c d answer later number line (Del ids) w = w
ended_step task rows c d answer later number line (Out id) w = w
ended_step task rows c d answer later number line End w = w

ended_read : (task : Task) (rows : List CnfRow) (c d : Clauses) (answer : Answer) → (Walks task ended c rows answer → Walks task ended d rows answer) → (number : ℕ) (line : List ℕ) (r : Result Step StepFault)
    → Follows number (read_turn task ended c number line r) (λ s c. Walks task s c rows answer) answer → Follows number (read_turn task ended d number line r) (λ s c. Walks task s c rows answer) answer
ended_read task rows c d answer later number line (Ok s) w = ended_step task rows c d answer later number line s w
ended_read task rows c d answer later number line (Err fault) w = w

pub ended_same : (task : Task) (rows : List CnfRow) (c d : Clauses) (answer : Answer) → Walks task ended c rows answer → Walks task ended d rows answer
ended_same task [] c d answer w = w
ended_same task (plain number line ∷ rows) c d answer w = ended_read task rows c d answer (ended_same task rows c d answer) number line (step_of line) w
ended_same task (too_long number which ∷ rows) c d answer w = w
ended_same task (last number ∷ rows) c d answer w = w

-- the same from the line on that ends the steps
pub end_within : (task : Task) (number : ℕ) (rows : List CnfRow) (clauses : Clauses) (n : Next) (answer : Answer) → IsNextWithin n → Follows number (at_end number clauses n) (λ s c. Walks task s c rows answer) answer → PassesCnf answer → ⊥
end_within task number rows clauses (clause ls rest) answer h w = λ bad. subst PassesCnf w bad
end_within task number rows clauses nothing answer h w =
    let none : Clauses = record { left = 0; symbols = [] } in cnf_within task rows ended none answer tt (ended_same task rows clauses none answer w)
end_within task number rows clauses (refused fault) answer h w = turn_within task number rows (at_end number clauses (refused fault)) answer (cnf_fault_fine fault h) w

-- ---- from the p line on

from_within : (p : Problem) (rows : List CnfRow) (head : CnfHead) (symbols : List CnfSymbol) (b : Bool) (answer : Answer) → AreWithin symbols → WalksFrom p rows head symbols b answer → PassesCnf answer → ⊥
from_within p rows head symbols true answer h w = cnf_within (task_of p head) rows head_wanted (record { left = head.clauses; symbols = symbols }) answer h w
from_within p rows head symbols false answer h w = λ bad. subst PassesCnf w bad

pub start_within : (p : Problem) (rows : List CnfRow) (s : Start) (answer : Answer) → IsStartWithin s → WalksBy p rows s answer → PassesCnf answer → ⊥
start_within p rows (told head symbols) answer h w = from_within p rows head symbols (leb (originals p) head.vars) answer h w
start_within p rows (wrong fault) answer h w = λ bad. cnf_fault_fine fault h (subst PassesCnf w bad)
