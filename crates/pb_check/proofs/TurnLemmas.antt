-- What the next line gives, by the rows of the text.
use Rattle.std.proofs.Common.{◌≡◌, ◌+◌, ◌-◌, ℕ, Bool, true, false, cond, List, [], ◌∷◌, Option, Some, None, Result, Ok, Err, refl, sym, ap, ◌∙◌, subst, arith, inl, inr}
use Rattle.std.proofs.lemmas.Bool.{true≢false}
use Rattle.pb_base.specs.declared.literal.Lit.{Lit}
use Rattle.pb_dimacs.specs.CnfRows.{CnfRow}
use Rattle.pb_dimacs.specs.CnfRows.CnfRow.{plain, too_long, last}
use Rattle.pb_dimacs.specs.CnfReaders.{CnfReader, symbols_left}
use Rattle.pb_dimacs.specs.CnfSymbols.{Next, next_of}
use Rattle.pb_dimacs.specs.CnfSymbols.Next.{clause, nothing}
use Rattle.pb_steps.specs.declared.fault.StepFault.{StepFault}
use Rattle.pb_steps.specs.declared.step.Step.{Step}
use Rattle.pb_steps.specs.declared.step.Step.TheVariants.{Blank, Head, Loaded, Pol, Rup, Red, Del, Out, End}
use Rattle.pb_steps.specs.Database.{Database}
use Rattle.pb_steps.specs.LineSteps.{step_of}
use Rattle.pb_check.specs.declared.taking.Taken.{Taken}
use Rattle.pb_check.specs.declared.taking.Taken.TheVariants as taken
use Rattle.pb_check.specs.Turns.{Answer, Task, Stage, Clauses, Turn, turn_by, read_turn, last_turn, at_out, next_in}
use Rattle.pb_check.specs.Turns.Stage.{head_wanted, count_wanted, at_steps, ended}
use Rattle.pb_check.specs.Turns.Turn.{go, stop, test}
use Rattle.pb_check.specs.Walk.{Follows, Walks}
use Rattle.pb_check.specs.inner.Judging.{IsJudged}
use Rattle.pb_check.specs.Faults.{of_step}
use Rattle.pb_check.specs.inner.Phases.{says_nothing, unless_blank, behind_blank, NextStops, clauses_of, FollowsRows, TurnGives}

-- ---- lines that say nothing

blank_goes : (task : Task) (stage : Stage) (clauses : Clauses) (number : ℕ) (line : List ℕ) → turn_by task stage clauses number line Blank ≡ go stage clauses
blank_goes task head_wanted clauses number line = refl
blank_goes task count_wanted clauses number line = refl
blank_goes task (at_steps db) clauses number line = refl
blank_goes task ended clauses number line = refl

is_blank : (s : Step) → says_nothing s ≡ true → s ≡ Blank
is_blank Blank e = refl
is_blank Head e = absurd (true≢false (sym e))
is_blank (Loaded count) e = absurd (true≢false (sym e))
is_blank (Pol ops) e = absurd (true≢false (sym e))
is_blank (Rup ts right ids) e = absurd (true≢false (sym e))
is_blank (Red ts right sets) e = absurd (true≢false (sym e))
is_blank (Del ids) e = absurd (true≢false (sym e))
is_blank (Out id) e = absurd (true≢false (sym e))
is_blank End e = absurd (true≢false (sym e))

pub walks_behind : (task : Task) (stage : Stage) (clauses : Clauses) (rows : List CnfRow) (a : Answer) → Walks task stage clauses (behind_blank rows) a → Walks task stage clauses rows a
walks_behind task stage clauses [] a w = w
walks_behind task stage clauses (plain number line ∷ rows) a w = by_step (step_of line) refl (walks_behind task stage clauses rows a) w
  where
    by_step : (r : Result Step StepFault) → step_of line ≡ r → (Walks task stage clauses (behind_blank rows) a → Walks task stage clauses rows a)
        → Walks task stage clauses (unless_blank r (behind_blank rows) (plain number line ∷ rows)) a → Walks task stage clauses (plain number line ∷ rows) a
    by_step (Ok s) e ih h = by_test (says_nothing s) refl e h
      where
        by_test : (b : Bool) → says_nothing s ≡ b → step_of line ≡ Ok s → Walks task stage clauses (cond b (behind_blank rows) (plain number line ∷ rows)) a → Walks task stage clauses (plain number line ∷ rows) a
        by_test true blank e h =
            subst (λ (t : Turn). Follows number t (λ s c. Walks task s c rows a) a) (sym (ap (read_turn task stage clauses number line) e ∙ ap (turn_by task stage clauses number line) (is_blank s blank) ∙ blank_goes task stage clauses number line)) (ih h)
        by_test false blank e h = h
    by_step (Err f) e ih h = h
walks_behind task stage clauses (too_long number which ∷ rows) a w = w
walks_behind task stage clauses (last number ∷ rows) a w = w

-- and the other way round
pub behind_walks : (task : Task) (stage : Stage) (clauses : Clauses) (rows : List CnfRow) (a : Answer) → Walks task stage clauses rows a → Walks task stage clauses (behind_blank rows) a
behind_walks task stage clauses [] a w = w
behind_walks task stage clauses (plain number line ∷ rows) a w = by_step (step_of line) refl (behind_walks task stage clauses rows a) w
  where
    by_step : (r : Result Step StepFault) → step_of line ≡ r → (Walks task stage clauses rows a → Walks task stage clauses (behind_blank rows) a)
        → Walks task stage clauses (plain number line ∷ rows) a → Walks task stage clauses (unless_blank r (behind_blank rows) (plain number line ∷ rows)) a
    by_step (Ok s) e ih h = by_test (says_nothing s) refl e h
      where
        by_test : (b : Bool) → says_nothing s ≡ b → step_of line ≡ Ok s → Walks task stage clauses (plain number line ∷ rows) a → Walks task stage clauses (cond b (behind_blank rows) (plain number line ∷ rows)) a
        by_test true blank e h =
            ih (subst (λ (t : Turn). Follows number t (λ s c. Walks task s c rows a) a) (ap (read_turn task stage clauses number line) e ∙ ap (turn_by task stage clauses number line) (is_blank s blank) ∙ blank_goes task stage clauses number line) h)
        by_test false blank e h = h
    by_step (Err f) e ih h = h
behind_walks task stage clauses (too_long number which ∷ rows) a w = w
behind_walks task stage clauses (last number ∷ rows) a w = w

pub behind_unsaid : (number : ℕ) (line : List ℕ) (rows : List CnfRow) (s : Step) → step_of line ≡ Ok s → says_nothing s ≡ true → behind_blank (plain number line ∷ rows) ≡ behind_blank rows
behind_unsaid number line rows s e blank =
    ap (λ (r : Result Step StepFault). unless_blank r (behind_blank rows) (plain number line ∷ rows)) e ∙ ap (λ (b : Bool). cond {A = List CnfRow} b (behind_blank rows) (plain number line ∷ rows)) blank

pub behind_said : (number : ℕ) (line : List ℕ) (rows : List CnfRow) (s : Step) → step_of line ≡ Ok s → says_nothing s ≡ false → behind_blank (plain number line ∷ rows) ≡ plain number line ∷ rows
behind_said number line rows s e some =
    ap (λ (r : Result Step StepFault). unless_blank r (behind_blank rows) (plain number line ∷ rows)) e ∙ ap (λ (b : Bool). cond {A = List CnfRow} b (behind_blank rows) (plain number line ∷ rows)) some

pub behind_fault : (number : ℕ) (line : List ℕ) (rows : List CnfRow) (f : StepFault) → step_of line ≡ Err f → behind_blank (plain number line ∷ rows) ≡ plain number line ∷ rows
behind_fault number line rows f e = ap (λ (r : Result Step StepFault). unless_blank r (behind_blank rows) (plain number line ∷ rows)) e

-- ---- the next line that says something

pub next_walks : (task : Task) (stage : Stage) (clauses : Clauses) (rows rest : List CnfRow) (number : ℕ) (line : List ℕ) (s : Step) (a : Answer) → step_of line ≡ Ok s → behind_blank rows ≡ plain number line ∷ rest
    → FollowsRows task number (turn_by task stage clauses number line s) rest a → Walks task stage clauses rows a
next_walks task stage clauses rows rest number line s a says is h =
    walks_behind task stage clauses rows a (subst (λ (rs : List CnfRow). Walks task stage clauses rs a) (sym is)
    (subst (λ (r : Result Step StepFault). FollowsRows task number (read_turn task stage clauses number line r) rest a) (sym says) h))

pub end_walks : (task : Task) (stage : Stage) (clauses : Clauses) (rows : List CnfRow) (number : ℕ) (a : Answer) → behind_blank rows ≡ last number ∷ [] → last_turn stage number ≡ stop a → Walks task stage clauses rows a
end_walks task stage clauses rows number a is ends =
    walks_behind task stage clauses rows a (subst (λ (rs : List CnfRow). Walks task stage clauses rs a) (sym is)
    (subst (λ (t : Turn). Follows number t (λ s c. Walks task s c [] a) a) (sym ends) refl))

pub fault_walks : (rows rest : List CnfRow) (number : ℕ) (line : List ℕ) (f : StepFault) → step_of line ≡ Err f → behind_blank rows ≡ plain number line ∷ rest → NextStops rows (of_step number f)
fault_walks rows rest number line f says is task stage clauses =
    walks_behind task stage clauses rows (Err (of_step number f)) (subst (λ (rs : List CnfRow). Walks task stage clauses rs (Err (of_step number f))) (sym is)
    (subst (λ (r : Result Step StepFault). FollowsRows task number (read_turn task stage clauses number line r) rest (Err (of_step number f))) (sym says) refl))

-- ---- a step of a rule

pub judged_gives : (t : Taken) (task : Task) (number : ℕ) (db db' : Database) (step : Step) (next : Option (List Lit)) (clauses : Clauses) → IsJudged db step next db' t → TurnGives t task number (test db step next clauses) db' clauses
judged_gives taken.On task number db db' step next clauses h = λ rows a w. inl (db', h, w)
judged_gives (taken.Denied d) task number db db' step next clauses h = λ rows. inr (d, h, refl)
judged_gives taken.Last task number db db' step next clauses h = absurd h

some_due : (ls : List Lit) → None ≡ Some ls → ⊥
some_due ls e = cc

none_given : (t : Taken) (task : Task) (number : ℕ) (db db' : Database) (id : ℕ) (clauses later : Clauses) → IsJudged db (Out id) None db' t → TurnGives t task number (test db (Out id) None clauses) db' later
none_given taken.On task number db db' id clauses later h = absurd (some_due h.rule.literals h.rule.is_next)
none_given (taken.Denied d) task number db db' id clauses later h = λ rows. inr (d, h, refl)
none_given taken.Last task number db db' id clauses later h = absurd h

pub clause_given : (t : Taken) (task : Task) (number : ℕ) (db db' : Database) (id : ℕ) (old new : CnfReader) (text rest : List ℕ) (ls : List Lit) → new.left + 1 ≡ old.left → IsJudged db (Out id) (Some ls) db' t
    → TurnGives t task number (at_out db id (clauses_of old text) (clause ls (symbols_left new rest))) db' (clauses_of new rest)
clause_given t task number db db' id old new text rest ls count h =
    let left : old.left - 1 ≡ new.left = omega arith in
    subst (λ (n : ℕ). TurnGives t task number (test db (Out id) (Some ls) (record { left = n; symbols = symbols_left new rest })) db' (clauses_of new rest)) (sym left)
    (judged_gives t task number db db' (Out id) (Some ls) (clauses_of new rest) h)

pub nothing_given : (t : Taken) (task : Task) (number : ℕ) (db db' : Database) (id : ℕ) (old new : CnfReader) (text rest : List ℕ) → IsJudged db (Out id) None db' t
    → TurnGives t task number (at_out db id (clauses_of old text) nothing) db' (clauses_of new rest)
nothing_given t task number db db' id old new text rest h = none_given t task number db db' id (clauses_of old text) (clauses_of new rest) h

-- what is left of the CNF tells what is due
pub out_turn : (t : Taken) (task : Task) (number : ℕ) (db db' : Database) (id : ℕ) (old : CnfReader) (text : List ℕ) (later : Clauses) (next : Next) → task.vars ≡ old.vars → next_of old.vars old.left (symbols_left old text) ≡ next
    → TurnGives t task number (at_out db id (clauses_of old text) next) db' later → TurnGives t task number (at_out db id (clauses_of old text) (next_in task (clauses_of old text))) db' later
out_turn t task number db db' id old text later next vars is h =
    subst (λ (n : Next). TurnGives t task number (at_out db id (clauses_of old text) n) db' later) (sym (ap (λ (v : ℕ). next_of v old.left (symbols_left old text)) vars ∙ is)) h
