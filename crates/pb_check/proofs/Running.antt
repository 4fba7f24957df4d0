-- The lines of a run that puts out the clauses of a CNF are accepted.
use Rattle.std.proofs.Common.{◌≡◌, ◌-◌, inl, ℕ, Bool, cond, List, [], ◌∷◌, ◌++◌, length, refl, ap, sym, ◌∙◌, subst, leb, map, true, ◌+◌}
use Rattle.std.specs.Prelude.{Option, Result, Ok, Err}
use Rattle.std.proofs.lemmas.Bool.{le-leb, eq-eqb}
use Rattle.pb_base.specs.declared.literal.Lit.{Lit}
use Rattle.pb_base.specs.Problems.{originals}
use Rattle.pb_norm.specs.Products.{loaded_of}
use Rattle.pb_dimacs.specs.declared.head.CnfHead.{CnfHead}
use Rattle.std.specs.List.{AllZip}
use Rattle.pb_base.specs.declared.limit.LimitKind.{LimitKind}
use Rattle.pb_desk.specs.declared.limits.LineLimits.{LineLimits}
use Rattle.pb_base.specs.Lines.{first_line}
use Rattle.pb_dimacs.specs.CnfWhole.{IsTextWithin}
use Rattle.pb_dimacs.proofs.WholeRows.{AllFit, text_fits, text_lines}
use Rattle.pb_dimacs.specs.CnfRows.{CnfRow, cnf_limits, starts_from, row_or, rows_from, rows_of}
use Rattle.pb_dimacs.specs.CnfRows.CnfRow.{plain, too_long, last}
use Rattle.pb_dimacs.specs.CnfSymbols.{Next, next_of, Start, start_of}
use Rattle.pb_dimacs.specs.CnfSymbols.Next.{clause, nothing}
use Rattle.pb_dimacs.specs.CnfSymbols.Start.{told, wrong}
use Rattle.pb_dimacs.specs.CnfWhole.{told_from, told_after}
use Rattle.pb_dimacs.specs.CnfWhole.CnfTold.{says}
use Rattle.pb_steps.specs.declared.fault.StepFault.{StepFault}
use Rattle.pb_steps.specs.declared.step.Step.{Step}
use Rattle.pb_steps.specs.declared.step.Step.TheVariants.{Blank, Head, Loaded, Pol, Rup, Red, Del, Out, End}
use Rattle.pb_steps.specs.Database.{Database}
use Rattle.pb_steps.specs.Allowed.{Allowed}
use Rattle.pb_steps.specs.LineSteps.{step_of}
use Rattle.pb_steps.specs.Runs.{next_clause, clauses_after, Runs}
use Rattle.pb_steps.proofs.Searching.{none-some}
use Rattle.pb_check.specs.Turns.{Task, Stage, Clauses, Turn, at_out, at_end, next_in, read_turn, turn_by}
use Rattle.pb_check.specs.Turns.Stage.{head_wanted, count_wanted, at_steps, ended}
use Rattle.pb_check.specs.Turns.Turn.{go, stop}
use Rattle.pb_check.specs.Walk.{Walks, task_of, WalksFrom, WalksBy}
use Rattle.pb_check.specs.WalkLaws.{SaySteps, framed, RunsAreAccepted}
use Rattle.pb_check.proofs.Accepted.{accepted, Turns, started}
use Rattle.pb_check.specs.Faults.{miscounted_line}
use Rattle.pb_check.proofs.Told.{no-refusal, told_head, told_end, told_next}

-- the rows are lines that say the steps one after another, and then the text ends
abbrev Spell : List CnfRow → List Step → Type 0
Spell (plain number line ∷ rows) (s ∷ ss) = (step_of line ≡ Ok s) × Spell rows ss
Spell (last number ∷ rows) [] = Unit {0}
Spell _ _ = ⊥

spell-from : (limits : LineLimits) (total number : ℕ) (starts : List (List ℕ)) (ss : List Step) → AllFit limits total number starts → AllZip (λ line s. step_of line ≡ Ok s) (map first_line starts) ss → Spell (rows_from limits total number starts) ss
spell-from limits total number [] [] fit lines = tt
spell-from limits total number [] (s ∷ ss) fit lines = absurd lines
spell-from limits total number (bytes ∷ starts) [] fit lines = absurd lines
spell-from limits total number (bytes ∷ starts) (s ∷ ss) fit lines =
    subst (λ (o : Option LimitKind). Spell (row_or o (number + 1) (first_line bytes) (rows_from limits total (number + 1) starts)) (s ∷ ss)) (sym fit.0)
    (lines.0, spell-from limits total (number + 1) starts ss fit.1 lines.1)

lines-spell : (text : List ℕ) (ss : List Step) → IsTextWithin text → SaySteps text ss → Spell (rows_of text) ss
lines-spell text ss within lines =
    spell-from cnf_limits (length text) 0 (starts_from true text) ss (text_fits text within)
    (subst (λ (ls : List (List ℕ)). AllZip (λ line s. step_of line ≡ Ok s) ls ss) (sym (text_lines text)) lines)

-- what a line asks that spells a step
read-as : (task : Task) (rows : List CnfRow) (stage : Stage) (clauses : Clauses) (number : ℕ) (line : List ℕ) (s : Step) → step_of line ≡ Ok s →
    Turns task rows number (read_turn task stage clauses number line (Ok s)) → Walks task stage clauses (plain number line ∷ rows) accepted
read-as task rows stage clauses number line s e w = subst (λ (r : Result Step StepFault). Turns task rows number (read_turn task stage clauses number line r)) (sym e) w

ended-walks : (task : Task) (rows : List CnfRow) (clauses : Clauses) → Spell rows [] → Walks task ended clauses rows accepted
ended-walks task [] clauses spell = absurd spell
ended-walks task (plain number line ∷ rows) clauses spell = absurd spell
ended-walks task (too_long number which ∷ rows) clauses spell = absurd spell
ended-walks task (last number ∷ rows) clauses spell = refl

-- what a run gives on lines that spell it
abbrev OnLines : Task → CnfHead → List Step → Type 0
OnLines task head ss =
    (rows : List CnfRow) (db : Database) (clauses : Clauses) (cs : List (List Lit)) (end : Database) → Spell rows (ss ++ End ∷ []) → Runs db ss cs end
    → told_from head clauses.left clauses.symbols ≡ says head cs → Walks task (at_steps db) clauses rows accepted

end-turn : (task : Task) (head : CnfHead) (rows : List CnfRow) (number : ℕ) (clauses : Clauses) → task.vars ≡ head.vars → Spell rows [] →
    told_from head clauses.left clauses.symbols ≡ says head [] → Turns task rows number (at_end number clauses (next_in task clauses))
end-turn task head rows number clauses vars spell tells =
    let next : next_in task clauses ≡ nothing = ap (λ (v : ℕ). next_of v clauses.left clauses.symbols) vars ∙ told_end head clauses.left clauses.symbols tells in
    subst (λ (n : Next). Turns task rows number (at_end number clauses n)) (sym next) (ended-walks task rows clauses spell)

out-turn : (task : Task) (head : CnfHead) (ss : List Step) (rows : List CnfRow) (number : ℕ) (db db' : Database) (clauses : Clauses) (id : ℕ) (cs : List (List Lit)) (end : Database) → task.vars ≡ head.vars → OnLines task head ss →
    Spell rows (ss ++ End ∷ []) → Allowed db (Out id) (next_clause cs) db' → Runs db' ss (clauses_after (Out id) cs) end →
    told_from head clauses.left clauses.symbols ≡ says head cs → Turns task rows number (at_out db id clauses (next_in task clauses))
out-turn task head ss rows number db db' clauses id [] end vars on spell allowed runs tells = absurd (none-some allowed.rule.literals allowed.rule.is_next)
out-turn task head ss rows number db db' clauses id (c ∷ cs) end vars on spell allowed runs tells =
    let comes = told_next head clauses.left clauses.symbols c cs tells in
    let next : next_in task clauses ≡ clause c comes.rest = ap (λ (v : ℕ). next_of v clauses.left clauses.symbols) vars ∙ comes.next in
    subst (λ (n : Next). Turns task rows number (at_out db id clauses n)) (sym next)
    (inl (db', allowed, on rows db' (record { left = clauses.left - 1; symbols = comes.rest }) cs end spell runs comes.tells))

step-walks : (task : Task) (head : CnfHead) → task.vars ≡ head.vars → (s : Step) (ss : List Step) → OnLines task head ss →
    (rows : List CnfRow) (number : ℕ) (line : List ℕ) (db : Database) (clauses : Clauses) (cs : List (List Lit)) (end : Database) → Spell rows (ss ++ End ∷ []) → Runs db (s ∷ ss) cs end →
    told_from head clauses.left clauses.symbols ≡ says head cs → Turns task rows number (turn_by task (at_steps db) clauses number line s)
step-walks task head vars Blank ss on rows number line db clauses cs end spell runs tells =
    subst (λ (d : Database). Walks task (at_steps d) clauses rows accepted) runs.1.rule (on rows runs.0 clauses cs end spell runs.2 tells)
step-walks task head vars (Pol ops) ss on rows number line db clauses cs end spell runs tells =
    inl (runs.0, record { vars = runs.1.vars; ids = runs.1.ids; rule = runs.1.rule }, on rows runs.0 clauses cs end spell runs.2 tells)
step-walks task head vars (Rup ts right ids) ss on rows number line db clauses cs end spell runs tells =
    inl (runs.0, record { vars = runs.1.vars; ids = runs.1.ids; rule = runs.1.rule }, on rows runs.0 clauses cs end spell runs.2 tells)
step-walks task head vars (Red ts right sets) ss on rows number line db clauses cs end spell runs tells =
    inl (runs.0, record { vars = runs.1.vars; ids = runs.1.ids; rule = runs.1.rule }, on rows runs.0 clauses cs end spell runs.2 tells)
step-walks task head vars (Del ids) ss on rows number line db clauses cs end spell runs tells =
    inl (runs.0, record { vars = runs.1.vars; ids = runs.1.ids; rule = runs.1.rule }, on rows runs.0 clauses cs end spell runs.2 tells)
step-walks task head vars (Out id) ss on rows number line db clauses cs end spell runs tells =
    out-turn task head ss rows number db runs.0 clauses id cs end vars on spell runs.1 runs.2 tells
step-walks task head vars Head ss on rows number line db clauses cs end spell runs tells = absurd runs.1.rule
step-walks task head vars (Loaded count) ss on rows number line db clauses cs end spell runs tells = absurd runs.1.rule
step-walks task head vars End ss on rows number line db clauses cs end spell runs tells = absurd runs.1.rule

steps-walk : (task : Task) (head : CnfHead) → task.vars ≡ head.vars → (ss : List Step) → OnLines task head ss
steps-walk task head vars [] [] db clauses cs end spell runs tells = absurd spell
steps-walk task head vars [] (too_long number which ∷ rows) db clauses cs end spell runs tells = absurd spell
steps-walk task head vars [] (last number ∷ rows) db clauses cs end spell runs tells = absurd spell
steps-walk task head vars [] (plain number line ∷ rows) db clauses cs end spell runs tells =
    let none = tells ∙ ap (says head) runs.0 in
    read-as task rows (at_steps db) clauses number line End spell.0 (end-turn task head rows number clauses vars spell.1 none)
steps-walk task head vars (s ∷ ss) [] db clauses cs end spell runs tells = absurd spell
steps-walk task head vars (s ∷ ss) (too_long number which ∷ rows) db clauses cs end spell runs tells = absurd spell
steps-walk task head vars (s ∷ ss) (last number ∷ rows) db clauses cs end spell runs tells = absurd spell
steps-walk task head vars (s ∷ ss) (plain number line ∷ rows) db clauses cs end spell runs tells =
    read-as task rows (at_steps db) clauses number line s spell.0
    (step-walks task head vars s ss (steps-walk task head vars ss) rows number line db clauses cs end spell.1 runs tells)

count-walks : (task : Task) (rows : List CnfRow) (clauses : Clauses) (ss : List Step) → ((rows : List CnfRow) → Spell rows ss → Walks task (at_steps (started task)) clauses rows accepted) →
    Spell rows (Loaded (length task.loaded) ∷ ss) → Walks task count_wanted clauses rows accepted
count-walks task [] clauses ss on spell = absurd spell
count-walks task (too_long number which ∷ rows) clauses ss on spell = absurd spell
count-walks task (last number ∷ rows) clauses ss on spell = absurd spell
count-walks task (plain number line ∷ rows) clauses ss on spell =
    read-as task rows count_wanted clauses number line (Loaded (length task.loaded)) spell.0
    (subst (λ (b : Bool). Turns task rows number (cond {A = Turn} b (go (at_steps (started task)) clauses) (stop (Err (miscounted_line number line)))))
    (sym (eq-eqb (length task.loaded) (length task.loaded) refl)) (on rows spell.1))

head-walks : (task : Task) (rows : List CnfRow) (clauses : Clauses) (ss : List Step) → ((rows : List CnfRow) → Spell rows ss → Walks task (at_steps (started task)) clauses rows accepted) →
    Spell rows (Head ∷ Loaded (length task.loaded) ∷ ss) → Walks task head_wanted clauses rows accepted
head-walks task [] clauses ss on spell = absurd spell
head-walks task (too_long number which ∷ rows) clauses ss on spell = absurd spell
head-walks task (last number ∷ rows) clauses ss on spell = absurd spell
head-walks task (plain number line ∷ rows) clauses ss on spell = read-as task rows head_wanted clauses number line Head spell.0 (count-walks task rows clauses ss on spell.1)

pub runs_are_accepted : RunsAreAccepted
runs_are_accepted p cnf proof head clauses steps end tells enough within says_steps runs = by_start (start_of (rows_of cnf)) tells where
  by_start : (s : Start) → told_after s ≡ says head clauses → WalksBy p (rows_of proof) s accepted
  by_start (told h symbols) e =
      let same : h ≡ head = told_head h h.clauses symbols head clauses e in
      let e' : told_from head head.clauses symbols ≡ says head clauses = subst (λ (g : CnfHead). told_from g g.clauses symbols ≡ says head clauses) same e in
      let c : Clauses = record { left = head.clauses; symbols = symbols } in
      let walks = head-walks (task_of p head) (rows_of proof) c (steps ++ End ∷ [])
      (λ rows sp. steps-walk (task_of p head) head refl steps rows (started (task_of p head)) c clauses end sp runs e') (lines-spell proof (framed (length (loaded_of p)) steps) within says_steps) in
      subst (λ (g : CnfHead). WalksFrom p (rows_of proof) g symbols (leb (originals p) g.vars) accepted) (sym same)
      (subst (λ (b : Bool). WalksFrom p (rows_of proof) head symbols b accepted) (sym (le-leb (originals p) head.vars enough)) walks)
  by_start (wrong fault) e = absurd (no-refusal fault head clauses e)
