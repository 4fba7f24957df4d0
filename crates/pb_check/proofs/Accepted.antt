-- An accepted derivation is a run that puts out the CNF's clauses.
use Rattle.std.proofs.Common.{◌≡◌, ◌+◌, ◌-◌, inl, inr, ℕ, zero, suc, Bool, true, false, cond, List, [], ◌∷◌, refl, ap, sym, ◌∙◌, subst, arith, eqb, length}
use Rattle.std.specs.Prelude.{None, Result, Ok, Err}
use Rattle.pb_base.specs.declared.literal.Lit.{Lit}
use Rattle.pb_dimacs.specs.declared.fault.CnfFault.{CnfFault}
use Rattle.pb_dimacs.specs.declared.fault.CnfFault.TheVariants as cnf_fault
use Rattle.pb_dimacs.specs.declared.head.CnfHead.{CnfHead}
use Rattle.pb_dimacs.specs.CnfRows.{CnfRow}
use Rattle.pb_dimacs.specs.CnfRows.CnfRow.{plain, too_long, last}
use Rattle.pb_dimacs.specs.CnfSymbols.{CnfSymbol, Next, next_of}
use Rattle.pb_dimacs.specs.CnfSymbols.CnfSymbol.{word, over, end}
use Rattle.pb_dimacs.specs.CnfSymbols.Next.{clause, nothing, refused}
use Rattle.pb_dimacs.specs.CnfWhole.{with_clause, told_from}
use Rattle.pb_dimacs.specs.CnfWhole.CnfTold.{says}
use Rattle.pb_dimacs.proofs.FormLemmas.{told_nothing, told_clause}
use Rattle.pb_steps.specs.declared.fault.StepFault.{StepFault}
use Rattle.pb_steps.specs.declared.fault.StepFault.TheVariants as step_fault
use Rattle.pb_steps.specs.declared.step.Step.{Step}
use Rattle.pb_steps.specs.declared.step.Step.TheVariants.{Blank, Head, Loaded, Pol, Rup, Red, Del, Out, End}
use Rattle.pb_steps.specs.Database.{Database, loaded_database}
use Rattle.pb_steps.specs.Allowed.{Allowed}
use Rattle.pb_steps.specs.Runs.{next_clause, clauses_after, Runs}
use Rattle.pb_steps.specs.LineSteps.{step_of}
use Rattle.pb_check.specs.declared.verdict.Verdict.TheVariants.{Accepted, Rejected}
use Rattle.pb_check.specs.declared.verdict.CheckFault.{CheckFault}
use Rattle.pb_steps.specs.declared.denied.Denied.{Denied}
use Rattle.pb_steps.specs.declared.denied.Denied.TheVariants.{ClausesLeft}
use Rattle.pb_steps.proofs.Searching.{none-some}
use Rattle.pb_check.specs.Faults.{of_cnf, of_step, miscounted_line}
use Rattle.pb_check.specs.Turns.{Answer, Task, Clauses, Turn, at_out, at_end, next_in, read_turn, turn_by}
use Rattle.pb_check.specs.Turns.Stage.{head_wanted, count_wanted, at_steps}
use Rattle.pb_check.specs.Turns.Turn.{go, stop, test}
use Rattle.pb_check.specs.Walk.{Follows, Walks}

-- steps that are allowed one after the other, and put out what the CNF tells from there on
pub record IsRun (head : CnfHead) (db : Database) (clauses : Clauses) : Type 0 where
  pub steps : List Step
  pub told : List (List Lit)
  pub last : Database
  pub runs : Runs db steps told last
  pub tells : told_from head clauses.left clauses.symbols ≡ says head told

abbrev pub accepted : Answer
accepted = Ok Accepted

-- ---- other answers

pub no-fault : (f : CheckFault) → accepted ≡ Err f → ⊥
no-fault f e = cc

no-rejection : (number : ℕ) (d : Denied) → accepted ≡ Ok (Rejected number d) → ⊥
no-rejection number d e = cc

pub no-cnf : (f : CnfFault) → accepted ≡ Err (of_cnf f) → ⊥
no-cnf (cnf_fault.Token place e) h = cc
no-cnf (cnf_fault.Limit place which) h = cc
no-cnf cnf_fault.Failed h = cc
no-cnf cnf_fault.NoMemory h = cc

no-line : (number : ℕ) (f : StepFault) → accepted ≡ Err (of_step number f) → ⊥
no-line number (step_fault.Token column e) h = cc
no-line number (step_fault.Limit column which) h = cc
no-line number step_fault.NoMemory h = cc

-- ---- what the CNF tells

-- a clause is one of those that are to come
pub clause_counts : (vars left : ℕ) (symbols : List CnfSymbol) (ls : List Lit) (rest : List CnfSymbol) → next_of vars left symbols ≡ clause ls rest → (left - 1) + 1 ≡ left
clause_counts vars (suc left) symbols ls rest e = omega arith
clause_counts vars zero [] ls rest e = cc
clause_counts vars zero (word place number ∷ symbols) ls rest e = cc
clause_counts vars zero (over place which ∷ symbols) ls rest e = cc
clause_counts vars zero (end place ∷ symbols) ls rest e = cc

-- ---- among the steps

abbrev Goes : Task → CnfHead → List CnfRow → Type 0
Goes task head rows = (db : Database) (clauses : Clauses) → Walks task (at_steps db) clauses rows accepted → IsRun head db clauses

abbrev pub Turns : Task → List CnfRow → ℕ → Turn → Type 0
Turns task rows number turn = Follows number turn (λ s c. Walks task s c rows accepted) accepted

-- with a step before the others, which looks at no clause
with_step : (head : CnfHead) (db db' : Database) (clauses : Clauses) (s : Step) → ((cs : List (List Lit)) → clauses_after s cs ≡ cs) → ((cs : List (List Lit)) → Allowed db s (next_clause cs) db') → IsRun head db' clauses → IsRun head db clauses
with_step head db db' clauses s same allowed r = record {
  steps = s ∷ r.steps;
  told = r.told;
  last = r.last;
  runs = (db', allowed r.told, subst (λ (cs : List (List Lit)). Runs db' r.steps cs r.last) (sym (same r.told)) r.runs);
  tells = r.tells;
}

from-test : (task : Task) (head : CnfHead) (rows : List CnfRow) (number : ℕ) (db : Database) (clauses : Clauses) (s : Step) →
    ((cs : List (List Lit)) → clauses_after s cs ≡ cs) → ((cs : List (List Lit)) (db' : Database) → Allowed db s None db' → Allowed db s (next_clause cs) db') →
    Goes task head rows → Turns task rows number (test db s None clauses) → IsRun head db clauses
from-test task head rows number db clauses s same allowed goes (inl taken) =
    with_step head db taken.0 clauses s same (λ cs. allowed cs taken.0 taken.1) (goes taken.0 clauses taken.2)
from-test task head rows number db clauses s same allowed goes (inr rejected) = absurd (no-rejection number rejected.0 rejected.2)

from-out : (task : Task) (head : CnfHead) (rows : List CnfRow) (number : ℕ) (db : Database) (clauses : Clauses) (id : ℕ) → task.vars ≡ head.vars →
    Goes task head rows → (n : Next) → next_in task clauses ≡ n → Turns task rows number (at_out db id clauses n) → IsRun head db clauses
from-out task head rows number db clauses id vars goes (clause ls rest) e (inl taken) =
    let r = goes taken.0 (record { left = clauses.left - 1; symbols = rest }) taken.2 in
    let next : next_of head.vars clauses.left clauses.symbols ≡ clause ls rest = ap (λ (v : ℕ). next_of v clauses.left clauses.symbols) (sym vars) ∙ e in
    record {
      steps = Out id ∷ r.steps;
      told = ls ∷ r.told;
      last = r.last;
      runs = (taken.0, taken.1, r.runs);
      tells = told_clause head clauses.left (clauses.left - 1) clauses.symbols rest ls (clause_counts head.vars clauses.left clauses.symbols ls rest next) next ∙ ap (with_clause ls) r.tells;
    }
from-out task head rows number db clauses id vars goes (clause ls rest) e (inr rejected) = absurd (no-rejection number rejected.0 rejected.2)
from-out task head rows number db clauses id vars goes nothing e (inl taken) = absurd (none-some taken.1.rule.literals taken.1.rule.is_next)
from-out task head rows number db clauses id vars goes nothing e (inr rejected) = absurd (no-rejection number rejected.0 rejected.2)
from-out task head rows number db clauses id vars goes (refused fault) e w = absurd (no-cnf fault w)

from-end : (task : Task) (head : CnfHead) (rows : List CnfRow) (number : ℕ) (db : Database) (clauses : Clauses) → task.vars ≡ head.vars →
    (n : Next) → next_in task clauses ≡ n → Turns task rows number (at_end number clauses n) → IsRun head db clauses
from-end task head rows number db clauses vars (clause ls rest) e w = absurd (no-rejection number ClausesLeft w)
from-end task head rows number db clauses vars nothing e w =
    let next : next_of head.vars clauses.left clauses.symbols ≡ nothing = ap (λ (v : ℕ). next_of v clauses.left clauses.symbols) (sym vars) ∙ e in
    record { steps = []; told = []; last = db; runs = (refl, refl); tells = told_nothing head clauses.left clauses.symbols next }
from-end task head rows number db clauses vars (refused fault) e w = absurd (no-cnf fault w)

from-step : (task : Task) (head : CnfHead) (rows : List CnfRow) (number : ℕ) (line : List ℕ) (db : Database) (clauses : Clauses) → task.vars ≡ head.vars →
    Goes task head rows → (s : Step) → Turns task rows number (turn_by task (at_steps db) clauses number line s) → IsRun head db clauses
from-step task head rows number line db clauses vars goes Blank w = goes db clauses w
from-step task head rows number line db clauses vars goes Head w = absurd (no-fault _ w)
from-step task head rows number line db clauses vars goes (Loaded count) w = absurd (no-fault _ w)
from-step task head rows number line db clauses vars goes (Pol ops) w =
    from-test task head rows number db clauses (Pol ops) (λ cs. refl) (λ cs db' a. record { vars = a.vars; ids = a.ids; rule = a.rule }) goes w
from-step task head rows number line db clauses vars goes (Rup ts right ids) w =
    from-test task head rows number db clauses (Rup ts right ids) (λ cs. refl) (λ cs db' a. record { vars = a.vars; ids = a.ids; rule = a.rule }) goes w
from-step task head rows number line db clauses vars goes (Red ts right sets) w =
    from-test task head rows number db clauses (Red ts right sets) (λ cs. refl) (λ cs db' a. record { vars = a.vars; ids = a.ids; rule = a.rule }) goes w
from-step task head rows number line db clauses vars goes (Del ids) w =
    from-test task head rows number db clauses (Del ids) (λ cs. refl) (λ cs db' a. record { vars = a.vars; ids = a.ids; rule = a.rule }) goes w
from-step task head rows number line db clauses vars goes (Out id) w = from-out task head rows number db clauses id vars goes (next_in task clauses) refl w
from-step task head rows number line db clauses vars goes End w = from-end task head rows number db clauses vars (next_in task clauses) refl w

from-read : (task : Task) (head : CnfHead) (rows : List CnfRow) (number : ℕ) (line : List ℕ) (db : Database) (clauses : Clauses) → task.vars ≡ head.vars →
    Goes task head rows → (r : Result Step StepFault) → Turns task rows number (read_turn task (at_steps db) clauses number line r) → IsRun head db clauses
from-read task head rows number line db clauses vars goes (Ok s) w = from-step task head rows number line db clauses vars goes s w
from-read task head rows number line db clauses vars goes (Err fault) w = absurd (no-line number fault w)

steps-run : (task : Task) (head : CnfHead) → task.vars ≡ head.vars → (rows : List CnfRow) → Goes task head rows
steps-run task head vars [] db clauses w = absurd w
steps-run task head vars (plain number line ∷ rows) db clauses w = from-read task head rows number line db clauses vars (steps-run task head vars rows) (step_of line) w
steps-run task head vars (too_long number which ∷ rows) db clauses w = absurd (no-fault _ w)
steps-run task head vars (last number ∷ rows) db clauses w = absurd (no-fault _ w)

-- ---- before them

abbrev pub started : Task → Database
started task = loaded_database task.original task.vars task.loaded

count-step : (task : Task) (head : CnfHead) (rows : List CnfRow) (number : ℕ) (line : List ℕ) (clauses : Clauses) → Goes task head rows →
    (Walks task count_wanted clauses rows accepted → IsRun head (started task) clauses) → (s : Step) → Turns task rows number (turn_by task count_wanted clauses number line s) → IsRun head (started task) clauses
count-step task head rows number line clauses goes later Blank w = later w
count-step task head rows number line clauses goes later (Loaded count) w = by_test (eqb count (length task.loaded)) w where
  by_test : (b : Bool) → Turns task rows number (cond {A = Turn} b (go (at_steps (started task)) clauses) (stop (Err (miscounted_line number line)))) → IsRun head (started task) clauses
  by_test true w = goes (started task) clauses w
  by_test false w = absurd (no-fault _ w)
count-step task head rows number line clauses goes later _ w = absurd (no-fault _ w)

count-read : (task : Task) (head : CnfHead) (rows : List CnfRow) (number : ℕ) (line : List ℕ) (clauses : Clauses) → Goes task head rows →
    (Walks task count_wanted clauses rows accepted → IsRun head (started task) clauses) → (r : Result Step StepFault) → Turns task rows number (read_turn task count_wanted clauses number line r) → IsRun head (started task) clauses
count-read task head rows number line clauses goes later (Ok s) w = count-step task head rows number line clauses goes later s w
count-read task head rows number line clauses goes later (Err fault) w = absurd (no-line number fault w)

count-run : (task : Task) (head : CnfHead) → task.vars ≡ head.vars → (rows : List CnfRow) (clauses : Clauses) → Walks task count_wanted clauses rows accepted → IsRun head (started task) clauses
count-run task head vars [] clauses w = absurd w
count-run task head vars (plain number line ∷ rows) clauses w =
    count-read task head rows number line clauses (steps-run task head vars rows) (count-run task head vars rows clauses) (step_of line) w
count-run task head vars (too_long number which ∷ rows) clauses w = absurd (no-fault _ w)
count-run task head vars (last number ∷ rows) clauses w = absurd (no-fault _ w)

head-step : (task : Task) (head : CnfHead) (rows : List CnfRow) (number : ℕ) (line : List ℕ) (clauses : Clauses) → (Walks task count_wanted clauses rows accepted → IsRun head (started task) clauses) →
    (Walks task head_wanted clauses rows accepted → IsRun head (started task) clauses) → (s : Step) → Turns task rows number (turn_by task head_wanted clauses number line s) → IsRun head (started task) clauses
head-step task head rows number line clauses next later Blank w = later w
head-step task head rows number line clauses next later Head w = next w
head-step task head rows number line clauses next later _ w = absurd (no-fault _ w)

head-read : (task : Task) (head : CnfHead) (rows : List CnfRow) (number : ℕ) (line : List ℕ) (clauses : Clauses) → (Walks task count_wanted clauses rows accepted → IsRun head (started task) clauses) →
    (Walks task head_wanted clauses rows accepted → IsRun head (started task) clauses) → (r : Result Step StepFault) → Turns task rows number (read_turn task head_wanted clauses number line r) → IsRun head (started task) clauses
head-read task head rows number line clauses next later (Ok s) w = head-step task head rows number line clauses next later s w
head-read task head rows number line clauses next later (Err fault) w = absurd (no-line number fault w)

pub head-run : (task : Task) (head : CnfHead) → task.vars ≡ head.vars → (rows : List CnfRow) (clauses : Clauses) → Walks task head_wanted clauses rows accepted → IsRun head (started task) clauses
head-run task head vars [] clauses w = absurd w
head-run task head vars (plain number line ∷ rows) clauses w =
    head-read task head rows number line clauses (count-run task head vars rows clauses) (head-run task head vars rows clauses) (step_of line) w
head-run task head vars (too_long number which ∷ rows) clauses w = absurd (no-fault _ w)
head-run task head vars (last number ∷ rows) clauses w = absurd (no-fault _ w)
