-- How a derivation is checked, line after line, beside the problem and the CNF (our own).
use Rattle.std.specs.Prelude.{◌≡◌, ◌⊎◌, ℕ, nat_le, Bool, true, false, List, [], ◌∷◌, Ok, Err}
use Rattle.pb_base.specs.declared.problem.Problem.{Problem}
use Rattle.pb_base.specs.Problems.{originals}
use Rattle.pb_norm.specs.Products.{loaded_of}
use Rattle.pb_dimacs.specs.declared.head.CnfHead.{CnfHead}
use Rattle.pb_dimacs.specs.CnfRows.{CnfRow, rows_of}
use Rattle.pb_dimacs.specs.CnfRows.CnfRow.{plain, too_long, last}
use Rattle.pb_dimacs.specs.CnfSymbols.{CnfSymbol, Start, start_of}
use Rattle.pb_dimacs.specs.CnfSymbols.Start.{told, wrong}
use Rattle.pb_steps.specs.declared.denied.Denied.{Denied}
use Rattle.pb_steps.specs.Database.{Database}
use Rattle.pb_steps.specs.Allowed.{Allowed}
use Rattle.pb_steps.specs.Denials.{FirstDenied}
use Rattle.pb_check.specs.declared.verdict.Verdict.TheVariants.{Accepted, Rejected}
use Rattle.pb_check.specs.declared.verdict.CheckFault.TheVariants.{Refused}
use Rattle.pb_base.specs.declared.file.File.TheVariants.{Cnf}
use Rattle.pb_base.specs.declared.expected.Expected.TheVariants.{VarCount}
use Rattle.pb_check.specs.Faults.{of_cnf}
use Rattle.pb_check.specs.Turns.{Answer, Task, Stage, Clauses, Turn, turn_of}
use Rattle.pb_check.specs.Turns.Stage.{head_wanted, at_steps}
use Rattle.pb_check.specs.Turns.Turn.{go, stop, test}

abbrev pub number_of : CnfRow → ℕ
number_of (plain number line) = number
number_of (too_long number which) = number
number_of (last number) = number

-- the answer from a turn on, where it comes so from the next line on: a step is allowed, or that it is not is the answer
abbrev pub Follows : ℕ → Turn → (Stage → Clauses → Type 0) → Answer → Type 0
Follows number (go stage clauses) Later answer = Later stage clauses
Follows number (stop end) Later answer = answer ≡ end
Follows number (test db step clause clauses) Later answer =
    ((db' : Database) × Allowed db step clause db' × Later (at_steps db') clauses) ⊎ ((d : Denied) × FirstDenied db step clause d × (answer ≡ Ok (Rejected number d)))

-- the answer from a line on
abbrev pub Walks : Task → Stage → Clauses → List CnfRow → Answer → Type 0
Walks task stage clauses [] answer = ⊥
Walks task stage clauses (row ∷ rows) answer = Follows (number_of row) (turn_of task stage clauses row) (λ s c. Walks task s c rows answer) answer

-- over the constraints of the problem
abbrev pub task_of : Problem → CnfHead → Task
task_of p head = record { original = originals p; vars = head.vars; loaded = loaded_of p }

-- the CNF has a variable for each that the constraints are over, or else too few
abbrev pub WalksFrom : Problem → List CnfRow → CnfHead → List CnfSymbol → Bool → Answer → Type 0
WalksFrom p rows head symbols true answer = Walks (task_of p head) head_wanted (record { left = head.clauses; symbols = symbols }) rows answer
WalksFrom p rows head symbols false answer = answer ≡ Err (Refused Cnf head.place VarCount)

-- the CNF's p line comes first
abbrev pub WalksBy : Problem → List CnfRow → Start → Answer → Type 0
WalksBy p rows (told head symbols) answer = WalksFrom p rows head symbols (nat_le (originals p) head.vars) answer
WalksBy p rows (wrong fault) answer = answer ≡ Err (of_cnf fault)

-- the answer for the texts of a CNF and of a derivation, whose lines have the same limits
abbrev pub Walk : Problem → List ℕ → List ℕ → Answer → Type 0
Walk p cnf proof answer = WalksBy p (rows_of proof) (start_of (rows_of cnf)) answer

-- the derivation is accepted
abbrev pub Accepts : Problem → List ℕ → List ℕ → Type 0
Accepts p cnf proof = Walk p cnf proof (Ok Accepted)
