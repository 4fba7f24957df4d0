-- Lines that stand in no place among the steps.
use Rattle.std.proofs.Common.{◌≡◌, ◌+◌, ℕ, Bool, false, cond, List, length, Some, None, Ok, Err, refl, sym, ap, ◌∙◌, subst, eq-eqb}
use Rattle.std.specs.Prelude.{◌≢◌, ◌==◌}
use Rattle.std.proofs.lemmas.Bool.{true≢false}
use Rattle.pb_desk.proofs.ReadLemmas.{reads_weaker}
use Rattle.pb_base.specs.declared.expected.Expected.TheVariants as expected
use Rattle.pb_desk.specs.Desk.{DeskState}
use Rattle.pb_desk.specs.LineReading.{TakesAhead}
use Rattle.pb_desk.specs.LineReaders.{Reader}
use Rattle.pb_dimacs.specs.Cursors.{rows_left}
use Rattle.pb_steps.specs.declared.step.Step.{Step}
use Rattle.pb_steps.specs.declared.step.Step.TheVariants.{Blank, Head, Loaded, Pol, Rup, Red, Del, Out, End}
use Rattle.pb_steps.specs.Database.{loaded_database}
use Rattle.pb_check.specs.declared.verdict.CheckFault.{CheckFault}
use Rattle.pb_check.specs.declared.verdict.CheckFault.TheVariants.{Refused}
use Rattle.pb_base.specs.declared.file.File.TheVariants.{Proof}
use Rattle.pb_dimacs.specs.CnfRows.{line_start}
use Rattle.pb_check.specs.declared.verdict.Verdict.TheVariants.{Accepted}
use Rattle.pb_check.specs.Turns.{Answer, Task, Clauses, Stage, Turn, misplaced, turn_by}
use Rattle.pb_check.specs.Turns.Stage.{head_wanted, count_wanted, at_steps, ended}
use Rattle.pb_check.specs.Turns.Turn.{go, stop}
use Rattle.pb_check.specs.Walk.{Walks}
use Rattle.pb_check.specs.Faults.{misplaced_line, miscounted_line}
use Rattle.pb_check.specs.inner.Calls.{Awaited, IsAwaited, MissesDue, ReadsStep, TaskOf}
use Rattle.pb_check.specs.inner.Phases.{says_nothing, StopsOne, NextSays, FollowsRows, Leads}
use Rattle.pb_desk.proofs.BothSlots.{differs}
use Rattle.pb_check.proofs.NextLines.{stops_weaker}
use Rattle.pb_check.proofs.TurnLemmas.{next_walks, end_walks}

head_misplaced : (s : Step) (task : Task) (clauses : Clauses) (number : ℕ) (line : List ℕ) → says_nothing s ≡ false → s ≢ Head → turn_by task head_wanted clauses number line s ≡ misplaced number line expected.Head
head_misplaced Blank task clauses number line some other = absurd (true≢false some)
head_misplaced Head task clauses number line some other = absurd (other refl)
head_misplaced (Loaded count) task clauses number line some other = refl
head_misplaced (Pol ops) task clauses number line some other = refl
head_misplaced (Rup ts right ids) task clauses number line some other = refl
head_misplaced (Red ts right sets) task clauses number line some other = refl
head_misplaced (Del ids) task clauses number line some other = refl
head_misplaced (Out id) task clauses number line some other = refl
head_misplaced End task clauses number line some other = refl

count_misplaced : (s : Step) (task : Task) (clauses : Clauses) (number : ℕ) (line : List ℕ) → says_nothing s ≡ false → ((count : ℕ) → s ≢ Loaded count) → turn_by task count_wanted clauses number line s ≡ misplaced number line expected.Loaded
count_misplaced Blank task clauses number line some other = absurd (true≢false some)
count_misplaced Head task clauses number line some other = refl
count_misplaced (Loaded count) task clauses number line some other = absurd (other count refl)
count_misplaced (Pol ops) task clauses number line some other = refl
count_misplaced (Rup ts right ids) task clauses number line some other = refl
count_misplaced (Red ts right sets) task clauses number line some other = refl
count_misplaced (Del ids) task clauses number line some other = refl
count_misplaced (Out id) task clauses number line some other = refl
count_misplaced End task clauses number line some other = refl

end_misplaced : (s : Step) (task : Task) (clauses : Clauses) (number : ℕ) (line : List ℕ) → says_nothing s ≡ false → turn_by task ended clauses number line s ≡ misplaced number line expected.DerivationEnd
end_misplaced Blank task clauses number line some = absurd (true≢false some)
end_misplaced Head task clauses number line some = refl
end_misplaced (Loaded count) task clauses number line some = refl
end_misplaced (Pol ops) task clauses number line some = refl
end_misplaced (Rup ts right ids) task clauses number line some = refl
end_misplaced (Red ts right sets) task clauses number line some = refl
end_misplaced (Del ids) task clauses number line some = refl
end_misplaced (Out id) task clauses number line some = refl
end_misplaced End task clauses number line some = refl

-- a line that stops, whatever the circumstances
stops_line : (X : Type 0) (f g : CheckFault) (s : Step) (stage : Stage) (task : X → Task) (clauses : X → Clauses) (old new : Reader) (a b : DeskState) → f ≡ g → ((x : X) → turn_by (task x) stage (clauses x) new.number new.line s ≡ stop (Err g))
    → (TakesAhead old.slot old.ahead new.ahead a b (λ text rest. (x : X) → Walks (task x) stage (clauses x) (rows_left old text) (Err g)) → StopsOne X g old new a b (λ x text answer. Walks (task x) stage (clauses x) (rows_left old text) answer))
    → TakesAhead old.slot old.ahead new.ahead a b (λ text rest. NextSays (Some s) new (rows_left old text) (rows_left new rest)) → StopsOne X f old new a b (λ x text answer. Walks (task x) stage (clauses x) (rows_left old text) answer)
stops_line X f g s stage task clauses old new a b is turn at reads =
    subst (λ (f : CheckFault). StopsOne X f old new a b (λ x text answer. Walks (task x) stage (clauses x) (rows_left old text) answer)) (sym is)
    (at (reads_weaker old.slot old.ahead new.ahead a b (λ text rest. NextSays (Some s) new (rows_left old text) (rows_left new rest)) (λ text rest. (x : X) → Walks (task x) stage (clauses x) (rows_left old text) (Err g))
    (λ text rest p x. next_walks (task x) stage (clauses x) (rows_left old text) (rows_left new rest) new.number new.line s (Err g) p.0 p.1
    (subst (λ (t : Turn). FollowsRows (task x) new.number t (rows_left new rest) (Err g)) (sym (turn x)) refl)) reads))

pub head_stops : (f : CheckFault) (s : Step) (old new : Reader) (a b : DeskState) → f ≡ misplaced_line new.number new.line expected.Head → says_nothing s ≡ false → s ≢ Head
    → TakesAhead old.slot old.ahead new.ahead a b (λ text rest. NextSays (Some s) new (rows_left old text) (rows_left new rest)) → StopsOne (Task × Clauses) f old new a b (λ x text answer. Walks x.0 head_wanted x.1 (rows_left old text) answer)
head_stops f s old new a b is some other reads =
    stops_line (Task × Clauses) f (misplaced_line new.number new.line expected.Head) s head_wanted (λ x. x.0) (λ x. x.1) old new a b is (λ x. head_misplaced s x.0 x.1 new.number new.line some other) (λ r. r) reads

pub rest_stops : (f : CheckFault) (s : Step) (old new : Reader) (a b : DeskState) → f ≡ misplaced_line new.number new.line expected.DerivationEnd → says_nothing s ≡ false
    → TakesAhead old.slot old.ahead new.ahead a b (λ text rest. NextSays (Some s) new (rows_left old text) (rows_left new rest)) → StopsOne (Task × Clauses) f old new a b (λ x text answer. Walks x.0 ended x.1 (rows_left old text) answer)
rest_stops f s old new a b is some reads =
    stops_line (Task × Clauses) f (misplaced_line new.number new.line expected.DerivationEnd) s ended (λ x. x.0) (λ x. x.1) old new a b is (λ x. end_misplaced s x.0 x.1 new.number new.line some) (λ r. r) reads

pub count_stops : (f : CheckFault) (s : Step) (loaded : ℕ) (old new : Reader) (a b : DeskState) → f ≡ misplaced_line new.number new.line expected.Loaded → says_nothing s ≡ false → ((count : ℕ) → s ≢ Loaded count)
    → TakesAhead old.slot old.ahead new.ahead a b (λ text rest. NextSays (Some s) new (rows_left old text) (rows_left new rest)) → StopsOne (TaskOf loaded) f old new a b (λ x text answer. Walks x.0 count_wanted x.1 (rows_left old text) answer)
count_stops f s loaded old new a b is some other reads =
    stops_line (TaskOf loaded) f (misplaced_line new.number new.line expected.Loaded) s count_wanted (λ x. x.0) (λ x. x.1) old new a b is (λ x. count_misplaced s x.0 x.1 new.number new.line some other) (λ r. r) reads

pub miscounted_stops : (f : CheckFault) (s : Step) (count loaded : ℕ) (old new : Reader) (a b : DeskState) → f ≡ miscounted_line new.number new.line → s ≡ Loaded count → (count ≡ loaded → ⊥)
    → TakesAhead old.slot old.ahead new.ahead a b (λ text rest. NextSays (Some s) new (rows_left old text) (rows_left new rest)) → StopsOne (TaskOf loaded) f old new a b (λ x text answer. Walks x.0 count_wanted x.1 (rows_left old text) answer)
miscounted_stops f s count loaded old new a b is says wrong reads =
    stops_line (TaskOf loaded) f (miscounted_line new.number new.line) s count_wanted (λ x. x.0) (λ x. x.1) old new a b is
    (λ x. ap (turn_by x.0 count_wanted x.1 new.number new.line) says
    ∙ ap (λ (t : Bool). cond t (go (at_steps (loaded_database x.0.original x.0.vars x.0.loaded)) x.1) (stop (Err (miscounted_line new.number new.line)))) (ap (λ (n : ℕ). count == n) x.2 ∙ differs count loaded wrong)) (λ r. r) reads

-- the text ends too early
pub ends_early : (f : CheckFault) (old new : Reader) (a b : DeskState) → f ≡ Refused Proof (line_start (new.number + 1)) expected.StepWord → ReadsStep None old new a b → MissesDue f old new a b
ends_early f old new a b is reads =
    subst (λ (f : CheckFault). MissesDue f old new a b) (sym is)
    (reads_weaker old.slot old.ahead new.ahead a b (λ text rest. NextSays None new (rows_left old text) (rows_left new rest)) (λ text rest. (x : Awaited) → Walks x.0 x.1 x.2 (rows_left old text) (Err (Refused Proof (line_start (new.number + 1)) expected.StepWord)))
    (λ text rest p x. end_walks x.0 x.1 x.2 (rows_left old text) (new.number + 1) (Err (Refused Proof (line_start (new.number + 1)) expected.StepWord)) p (x.3 (new.number + 1))) reads)

-- a line that is due was not read
pub due_stops : (X : Type 0) (f : CheckFault) (stage : Stage) (task : X → Task) (clauses : X → Clauses) (old new : Reader) (a b : DeskState) → IsAwaited stage → MissesDue f old new a b
    → StopsOne X f old new a b (λ x text answer. Walks (task x) stage (clauses x) (rows_left old text) answer)
due_stops X f stage task clauses old new a b awaited stops =
    stops_weaker Awaited X f old new a b (λ x text answer. Walks x.0 x.1 x.2 (rows_left old text) answer) (λ x text answer. Walks (task x) stage (clauses x) (rows_left old text) answer)
    (λ x. ((task x, stage, clauses x, awaited), λ text answer w. w)) stops

-- a line that leads on
pub head_leads : (s : Step) (old new : Reader) (a b : DeskState) → s ≡ Head → TakesAhead old.slot old.ahead new.ahead a b (λ text rest. NextSays (Some s) new (rows_left old text) (rows_left new rest))
    → TakesAhead old.slot old.ahead new.ahead a b (λ text rest. Leads count_wanted (rows_left new rest) head_wanted (rows_left old text))
head_leads s old new a b is reads =
    reads_weaker old.slot old.ahead new.ahead a b (λ text rest. NextSays (Some s) new (rows_left old text) (rows_left new rest)) (λ text rest. Leads count_wanted (rows_left new rest) head_wanted (rows_left old text))
    (λ text rest p task clauses answer w. next_walks task head_wanted clauses (rows_left old text) (rows_left new rest) new.number new.line s answer p.0 p.1
    (subst (λ (s : Step). FollowsRows task new.number (turn_by task head_wanted clauses new.number new.line s) (rows_left new rest) answer) (sym is) w)) reads

pub count_leads : (s : Step) (count loaded : ℕ) (old new : Reader) (a b : DeskState) → s ≡ Loaded count → count ≡ loaded → TakesAhead old.slot old.ahead new.ahead a b (λ text rest. NextSays (Some s) new (rows_left old text) (rows_left new rest))
    → TakesAhead old.slot old.ahead new.ahead a b (λ text rest. (task : Task) (clauses : Clauses) (a : Answer) → length task.loaded ≡ loaded → Walks task (at_steps (loaded_database task.original task.vars task.loaded)) clauses (rows_left new rest) a → Walks task count_wanted clauses (rows_left old text) a)
count_leads s count loaded old new a b is right reads =
    reads_weaker old.slot old.ahead new.ahead a b (λ text rest. NextSays (Some s) new (rows_left old text) (rows_left new rest))
    (λ text rest. (task : Task) (clauses : Clauses) (a : Answer) → length task.loaded ≡ loaded → Walks task (at_steps (loaded_database task.original task.vars task.loaded)) clauses (rows_left new rest) a → Walks task count_wanted clauses (rows_left old text) a)
    (λ text rest p task clauses answer same w. next_walks task count_wanted clauses (rows_left old text) (rows_left new rest) new.number new.line s answer p.0 p.1
    (subst (λ (t : Turn). FollowsRows task new.number t (rows_left new rest) answer) (sym (ap (turn_by task count_wanted clauses new.number new.line) is
    ∙ ap (λ (t : Bool). cond t (go (at_steps (loaded_database task.original task.vars task.loaded)) clauses) (stop (Err (miscounted_line new.number new.line)))) (ap (λ (n : ℕ). count == n) same ∙ eq-eqb count loaded right))) w)) reads

pub rest_ends : (old new : Reader) (a b : DeskState) → TakesAhead old.slot old.ahead new.ahead a b (λ text rest. NextSays None new (rows_left old text) (rows_left new rest))
    → TakesAhead old.slot old.ahead new.ahead a b (λ text rest. (task : Task) (clauses : Clauses) → Walks task ended clauses (rows_left old text) (Ok Accepted))
rest_ends old new a b reads =
    reads_weaker old.slot old.ahead new.ahead a b (λ text rest. NextSays None new (rows_left old text) (rows_left new rest)) (λ text rest. (task : Task) (clauses : Clauses) → Walks task ended clauses (rows_left old text) (Ok Accepted))
    (λ text rest p task clauses. end_walks task ended clauses (rows_left old text) (new.number + 1) (Ok Accepted) p refl) reads
