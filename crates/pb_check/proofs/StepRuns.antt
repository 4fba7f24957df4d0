-- Steps, one after another.
use Rattle.std.proofs.Common.{◌≡◌, ℕ, List, Some, None, Ok, Err, refl, sym, ◌∙◌, subst}
use Rattle.std.specs.Prelude.{◌≢◌, Result, IfErr, IfOk}
use Rattle.pb_base.specs.declared.expected.Expected.TheVariants.{StepWord}
use Rattle.pb_desk.specs.Desk.{DeskState}
use Rattle.pb_desk.specs.LineReading.{Knows, TakesAhead}
use Rattle.pb_desk.specs.LineReaders.{Reader}
use Rattle.pb_dimacs.specs.CnfReaders.{CnfReader}
use Rattle.pb_dimacs.specs.CnfSymbols.{Next}
use Rattle.pb_dimacs.specs.Cursors.{rows_left}
use Rattle.pb_steps.specs.declared.denied.Denied.{Denied}
use Rattle.pb_steps.specs.declared.step.Step.{Step}
use Rattle.pb_steps.specs.Database.{Database}
use Rattle.pb_check.specs.declared.verdict.Verdict.TheVariants.{Rejected}
use Rattle.pb_check.specs.declared.verdict.CheckFault.{CheckFault}
use Rattle.pb_check.specs.declared.session.Session.{Session}
use Rattle.pb_check.specs.declared.taking.Taken.{Taken}
use Rattle.pb_check.specs.declared.taking.Taken.TheVariants as taken
use Rattle.pb_check.specs.Faults.{misplaced_line}
use Rattle.pb_check.specs.Turns.{Answer, Task, Clauses, Turn, turn_by}
use Rattle.pb_check.specs.Turns.Stage.{at_steps}
use Rattle.pb_check.specs.Walk.{Walks}
use Rattle.pb_desk.specs.TwoSlots.{ReadsBoth}
use Rattle.pb_check.specs.inner.Phases.{StopsOne, StopsBoth, NextSays, clauses_of, FollowsRows, TurnGives, LineGives, OnLine, StepsGive, TaskOver}
use Rattle.pb_check.specs.inner.Calls.{Awaited, MissesDue, ReadsStep, StopsStep, StopsSteps, TakesLine, TakesStep}
use Rattle.pb_check.specs.inner.Sessions.{GivesLine, GivesSteps, StopsAmong}
use Rattle.pb_check.proofs.NextLines.{stops_weaker}
use Rattle.pb_check.proofs.Takes.{NextComes, at_err, at_ok}
use Rattle.pb_check.proofs.TurnLemmas.{next_walks}
use Rattle.pb_desk.proofs.ReadLemmas.{reads_begin}
use Rattle.pb_desk.proofs.BothSlots.{both_weaker, both_of_one, both_of_two, both_then}
use Rattle.pb_check.proofs.BothStops.{stops_of_cnf, stops_of_proof, both_stops}

-- a step that was read
abbrev Read : Step → Reader → Reader → List ℕ → List ℕ → List ℕ → List ℕ → Type 0
Read s proof proof' c p c' p' = (c' ≡ c) × NextSays (Some s) proof' (rows_left proof p) (rows_left proof' p')

read : (s : Step) (cnf proof proof' : Reader) (a b : DeskState) → cnf.slot ≢ proof.slot → proof'.slot ≡ proof.slot → TakesAhead proof.slot proof.ahead proof'.ahead a b (λ text rest. NextSays (Some s) proof' (rows_left proof text) (rows_left proof' rest))
    → ReadsBoth cnf proof cnf proof' a b (Read s proof proof')
read s cnf proof proof' a b apart slot reads =
    both_of_two cnf proof proof' a b (λ text rest. NextSays (Some s) proof' (rows_left proof text) (rows_left proof' rest)) (Read s proof proof') apart slot (λ c p p' h. (refl, h)) reads

-- a step that was read, and what it gave
abbrev pub Took : Taken → Step → CnfReader → Database → Reader → CnfReader → Database → Reader → List ℕ → List ℕ → List ℕ → List ℕ → Type 0
Took t s cnf db proof cnf' db' proof' c p c' p' =
    ((task : Task) → task.vars ≡ cnf.vars → TurnGives t task proof'.number (turn_by task (at_steps db) (clauses_of cnf c) proof'.number proof'.line s) db' (clauses_of cnf' c')) × NextSays (Some s) proof' (rows_left proof p) (rows_left proof' p')

took : (t : Taken) (s : Step) (cnf cnf' : CnfReader) (db db' : Database) (proof proof' : Reader) (a b c : DeskState) → cnf.lines.slot ≢ proof.slot → proof'.slot ≡ proof.slot → cnf'.lines.slot ≡ cnf.lines.slot
    → TakesAhead proof.slot proof.ahead proof'.ahead a b (λ text rest. NextSays (Some s) proof' (rows_left proof text) (rows_left proof' rest))
    → TakesAhead cnf.lines.slot cnf.lines.ahead cnf'.lines.ahead b c (λ text rest. (task : Task) → task.vars ≡ cnf.vars → TurnGives t task proof'.number (turn_by task (at_steps db) (clauses_of cnf text) proof'.number proof'.line s) db' (clauses_of cnf' rest))
    → ReadsBoth cnf.lines proof cnf'.lines proof' a c (Took t s cnf db proof cnf' db' proof')
took t s cnf cnf' db db' proof proof' a b c apart slot slot' line step =
    both_then cnf.lines proof cnf.lines proof' cnf'.lines proof' a b c (Read s proof proof')
    (λ c p c' p'. ((task : Task) → task.vars ≡ cnf.vars → TurnGives t task proof'.number (turn_by task (at_steps db) (clauses_of cnf c) proof'.number proof'.line s) db' (clauses_of cnf' c')) × (p' ≡ p))
    (Took t s cnf db proof cnf' db' proof')
    (λ t0 u0 t1 u1 t2 u2 p q. (
      λ task vars. subst (λ (x : List ℕ). TurnGives t task proof'.number (turn_by task (at_steps db) (clauses_of cnf x) proof'.number proof'.line s) db' (clauses_of cnf' t2)) p.0 (q.0 task vars),
      subst (λ (y : List ℕ). NextSays (Some s) proof' (rows_left proof u0) (rows_left proof' y)) (sym q.1) p.1,
    ))
    (read s cnf.lines proof proof' a b apart slot line)
    (both_of_one cnf.lines cnf'.lines proof' b c (λ text rest. (task : Task) → task.vars ≡ cnf.vars → TurnGives t task proof'.number (turn_by task (at_steps db) (clauses_of cnf text) proof'.number proof'.line s) db' (clauses_of cnf' rest))
    (λ c p c' p'. ((task : Task) → task.vars ≡ cnf.vars → TurnGives t task proof'.number (turn_by task (at_steps db) (clauses_of cnf c) proof'.number proof'.line s) db' (clauses_of cnf' c')) × (p' ≡ p))
    (λ e. apart (e ∙ slot)) slot' (λ c p c' h. (h, refl)) step)

-- what a line gave
line_gives : (t : Taken) (s : Step) (cnf cnf' : CnfReader) (db db' : Database) (proof proof' : Reader) (a b : DeskState) → ReadsBoth cnf.lines proof cnf'.lines proof' a b (Took t s cnf db proof cnf' db' proof')
    → ReadsBoth cnf.lines proof cnf'.lines proof' a b (LineGives t cnf db proof cnf' db' proof')
line_gives t s cnf cnf' db db' proof proof' a b step =
    both_weaker cnf.lines proof cnf'.lines proof' a b (Took t s cnf db proof cnf' db' proof') (LineGives t cnf db proof cnf' db' proof') (λ c p c' p' q. by_taken t c p c' p' q.0 q.1) step
  where
    by_taken : (t : Taken) (c p c' p' : List ℕ) → ((task : Task) → task.vars ≡ cnf.vars → TurnGives t task proof'.number (turn_by task (at_steps db) (clauses_of cnf c) proof'.number proof'.line s) db' (clauses_of cnf' c')) → NextSays (Some s) proof' (rows_left proof p) (rows_left proof' p')
        → LineGives t cnf db proof cnf' db' proof' c p c' p'
    by_taken taken.On c p c' p' gives says = λ task answer vars w.
        next_walks task (at_steps db) (clauses_of cnf c) (rows_left proof p) (rows_left proof' p') proof'.number proof'.line s answer says.0 says.1 (gives task vars (rows_left proof' p') answer w)
    by_taken taken.Last c p c' p' gives says = λ task answer vars w.
        next_walks task (at_steps db) (clauses_of cnf c) (rows_left proof p) (rows_left proof' p') proof'.number proof'.line s answer says.0 says.1 (gives task vars (rows_left proof' p') answer w)
    by_taken (taken.Denied d) c p c' p' gives says = λ task vars.
        next_walks task (at_steps db) (clauses_of cnf c) (rows_left proof p) (rows_left proof' p') proof'.number proof'.line s (Ok (Rejected proof'.number d)) says.0 says.1 (gives task vars (rows_left proof' p'))

-- the answer from the steps on
abbrev pub StepsCome : (cnf : CnfReader) → Database → Reader → TaskOver cnf → List ℕ → List ℕ → Answer → Type 0
StepsCome cnf db proof x c p answer = Walks x.0 (at_steps db) (clauses_of cnf c) (rows_left proof p) answer

-- a line was not read
pub line_fault : (f : CheckFault) (cnf : CnfReader) (db : Database) (proof proof' : Reader) (a b : DeskState) → proof'.slot ≡ proof.slot → cnf.lines.slot ≢ proof.slot → MissesDue f proof proof' a b
    → StopsBoth (TaskOver cnf) f cnf.lines proof cnf.lines proof' a b (StepsCome cnf db proof)
line_fault f cnf db proof proof' a b slot apart stops =
    stops_of_proof Awaited (TaskOver cnf) f cnf.lines proof proof' a b (λ x text answer. Walks x.0 x.1 x.2 (rows_left proof text) answer) (StepsCome cnf db proof) apart slot (λ x c. ((x.0, at_steps db, clauses_of cnf c, λ n. refl), λ p answer w. w)) stops

-- the answer from a step on, whose line was read
abbrev pub StepComes : (cnf : CnfReader) → Database → Reader → Step → OnLine cnf → List ℕ → Answer → Type 0
StepComes cnf db proof s x text answer = FollowsRows x.task proof.number (turn_by x.task (at_steps db) (clauses_of cnf text) proof.number proof.line s) (rows_left x.proof x.text) answer

-- no step stands there
pub misplaced_step : (s t : Step) (f : CheckFault) (cnf : CnfReader) (db : Database) (proof : Reader) (a : DeskState) → Knows cnf.lines.slot cnf.lines.ahead a → s ≡ t → f ≡ misplaced_line proof.number proof.line StepWord
    → ((x : OnLine cnf) (text : List ℕ) → StepComes cnf db proof t x text (Err (misplaced_line proof.number proof.line StepWord))) → StopsOne (OnLine cnf) f cnf.lines cnf.lines a a (StepComes cnf db proof s)
misplaced_step s t f cnf db proof a knows says is comes =
    subst (λ (f : CheckFault). StopsOne (OnLine cnf) f cnf.lines cnf.lines a a (StepComes cnf db proof s)) (sym is)
    (reads_begin cnf.lines.slot cnf.lines.ahead a (λ text rest. (x : OnLine cnf) → StepComes cnf db proof s x text (Err (misplaced_line proof.number proof.line StepWord))) knows
    (λ text x. subst (λ (u : Step). StepComes cnf db proof u x text (Err (misplaced_line proof.number proof.line StepWord))) (sym says) (comes x text)))

-- the same line by its number
abbrev pub at_line : (cnf : CnfReader) → ℕ → OnLine cnf → OnLine cnf
at_line cnf number x = record { task = x.task; number = number; proof = x.proof; text = x.text; same_vars = x.same_vars }

-- a step asks for a clause that was not read
pub clause_unread : (got : Result Taken CheckFault) (s t : Step) (cnf cnf' : CnfReader) (db : Database) (proof : Reader) (a b : DeskState) (turn : OnLine cnf → Clauses → Next → Turn) → s ≡ t
    → ((x : OnLine cnf) (text : List ℕ) (answer : Answer) → NextComes cnf turn (at_line cnf proof.number x) text answer → StepComes cnf db proof t x text answer)
    → IfErr got (λ f. StopsOne (OnLine cnf) f cnf.lines cnf'.lines a b (NextComes cnf turn)) → IfErr got (λ f. StopsOne (OnLine cnf) f cnf.lines cnf'.lines a b (StepComes cnf db proof s))
clause_unread got s t cnf cnf' db proof a b turn says comes stopped =
    at_err got (λ f. StopsOne (OnLine cnf) f cnf.lines cnf'.lines a b (NextComes cnf turn)) (λ f. StopsOne (OnLine cnf) f cnf.lines cnf'.lines a b (StepComes cnf db proof s))
    (λ f. stops_weaker (OnLine cnf) (OnLine cnf) f cnf.lines cnf'.lines a b (NextComes cnf turn) (StepComes cnf db proof s)
    (λ x. (at_line cnf proof.number x, λ text answer w. subst (λ (u : Step). StepComes cnf db proof u x text answer) (sym says) (comes x text answer w)))) stopped

-- a step does not stand in its place, or its clause was not read
line_stop : (f : CheckFault) (s : Step) (cnf cnf' : CnfReader) (db : Database) (proof proof' : Reader) (a b c : DeskState) → proof'.slot ≡ proof.slot → cnf'.lines.slot ≡ cnf.lines.slot → cnf.lines.slot ≢ proof.slot
    → TakesAhead proof.slot proof.ahead proof'.ahead a b (λ text rest. NextSays (Some s) proof' (rows_left proof text) (rows_left proof' rest))
    → StopsOne (OnLine cnf) f cnf.lines cnf'.lines b c (StepComes cnf db proof' s)
    → StopsBoth (TaskOver cnf) f cnf.lines proof cnf'.lines proof' a c (StepsCome cnf db proof)
line_stop f s cnf cnf' db proof proof' a b c slot slot' apart line stops =
    let Comes = λ (x : TaskOver cnf) (t u : List ℕ) (answer : Answer). FollowsRows x.0 proof'.number (turn_by x.0 (at_steps db) (clauses_of cnf t) proof'.number proof'.line s) (rows_left proof' u) answer in
    both_stops (TaskOver cnf) (TaskOver cnf) f cnf.lines proof cnf.lines proof' cnf'.lines proof' a b c (Read s proof proof') Comes (StepsCome cnf db proof)
    (λ x. (
      x,
      λ t u t' u' answer p w.
          next_walks x.0 (at_steps db) (clauses_of cnf t) (rows_left proof u) (rows_left proof' u') proof'.number proof'.line s answer p.1.0 p.1.1
          (subst (λ (v : List ℕ). FollowsRows x.0 proof'.number (turn_by x.0 (at_steps db) (clauses_of cnf v) proof'.number proof'.line s) (rows_left proof' u') answer) p.0 w),
    ))
    (read s cnf.lines proof proof' a b apart slot line)
    (stops_of_cnf (OnLine cnf) (TaskOver cnf) f cnf.lines cnf'.lines proof' b c (StepComes cnf db proof' s) Comes (λ e. apart (e ∙ slot)) slot'
    (λ x p. (record { task = x.0; number = proof'.number; proof = proof'; text = p; same_vars = x.1 }, λ c answer w. w)) stops)

-- the same of a step that gave something, or a fault
pub got_gives : (got : Result Taken CheckFault) (s : Step) (cnf cnf' : CnfReader) (db db' : Database) (proof proof' : Reader) (a b c : DeskState) → cnf.lines.slot ≢ proof.slot → proof'.slot ≡ proof.slot → cnf'.lines.slot ≡ cnf.lines.slot
    → ReadsStep (Some s) proof proof' a b → IfOk got (λ t. TakesStep t s proof' cnf db cnf' db' b c) → IfOk got (λ t. TakesLine t cnf db proof cnf' db' proof' a c)
got_gives got s cnf cnf' db db' proof proof' a b c apart slot slot' line gives =
    at_ok got (λ t. TakesStep t s proof' cnf db cnf' db' b c) (λ t. TakesLine t cnf db proof cnf' db' proof' a c)
    (λ t step. line_gives t s cnf cnf' db db' proof proof' a c (took t s cnf cnf' db db' proof proof' a b c apart slot slot' line step)) gives

pub got_stops : (got : Result Taken CheckFault) (s : Step) (cnf cnf' : CnfReader) (db : Database) (proof proof' : Reader) (a b c : DeskState) → proof'.slot ≡ proof.slot → cnf'.lines.slot ≡ cnf.lines.slot → cnf.lines.slot ≢ proof.slot
    → ReadsStep (Some s) proof proof' a b → IfErr got (λ f. StopsStep f s proof' cnf db cnf' b c) → IfErr got (λ f. StopsSteps f cnf db proof cnf' proof' a c)
got_stops got s cnf cnf' db proof proof' a b c slot slot' apart line stops =
    at_err got (λ f. StopsStep f s proof' cnf db cnf' b c) (λ f. StopsSteps f cnf db proof cnf' proof' a c) (λ f. line_stop f s cnf cnf' db proof proof' a b c slot slot' apart line) stops

-- ---- line after line, in a session

pub runs_on : (t : Taken) (s0 s s' : Session) (db0 db db' : Database) (a b c : DeskState) → t ≡ taken.On → s.outputs.cnf.vars ≡ s0.outputs.cnf.vars → GivesLine taken.On db0 s0 db s a b → GivesLine t db s db' s' b c → GivesLine taken.On db0 s0 db' s' a c
runs_on t s0 s s' db0 db db' a b c is same_vars before line =
    both_then s0.outputs.cnf.lines s0.derivation.lines s.outputs.cnf.lines s.derivation.lines s'.outputs.cnf.lines s'.derivation.lines a b c (LineGives taken.On s0.outputs.cnf db0 s0.derivation.lines s.outputs.cnf db s.derivation.lines) (LineGives taken.On s.outputs.cnf db s.derivation.lines s'.outputs.cnf db' s'.derivation.lines) (LineGives taken.On s0.outputs.cnf db0 s0.derivation.lines s'.outputs.cnf db' s'.derivation.lines)
    (λ t0 u0 t1 u1 t2 u2 p q task answer vars w. p task answer vars (q task answer (vars ∙ sym same_vars) w)) before (subst (λ (u : Taken). GivesLine u db s db' s' b c) is line)

pub runs_out : (t : Taken) (s0 s s' : Session) (db0 db db' : Database) (a b c : DeskState) → t ≡ taken.Last → s.outputs.cnf.vars ≡ s0.outputs.cnf.vars → GivesLine taken.On db0 s0 db s a b → GivesLine t db s db' s' b c → GivesSteps None db0 s0 s' a c
runs_out t s0 s s' db0 db db' a b c is same_vars before line =
    both_then s0.outputs.cnf.lines s0.derivation.lines s.outputs.cnf.lines s.derivation.lines s'.outputs.cnf.lines s'.derivation.lines a b c (LineGives taken.On s0.outputs.cnf db0 s0.derivation.lines s.outputs.cnf db s.derivation.lines) (LineGives taken.Last s.outputs.cnf db s.derivation.lines s'.outputs.cnf db' s'.derivation.lines) (λ c p c' p'. StepsGive None s0.outputs.cnf db0 s0.derivation.lines s'.derivation.lines c p p')
    (λ t0 u0 t1 u1 t2 u2 p q task answer vars w. p task answer vars (q task answer (vars ∙ sym same_vars) w)) before (subst (λ (u : Taken). GivesLine u db s db' s' b c) is line)

pub runs_denied : (t : Taken) (d : Denied) (number : ℕ) (s0 s s' : Session) (db0 db db' : Database) (a b c : DeskState) → t ≡ taken.Denied d → number ≡ s'.derivation.lines.number → s.outputs.cnf.vars ≡ s0.outputs.cnf.vars → GivesLine taken.On db0 s0 db s a b → GivesLine t db s db' s' b c
    → GivesSteps (Some (Rejected number d)) db0 s0 s' a c
runs_denied t d number s0 s s' db0 db db' a b c is at same_vars before line =
    both_then s0.outputs.cnf.lines s0.derivation.lines s.outputs.cnf.lines s.derivation.lines s'.outputs.cnf.lines s'.derivation.lines a b c (LineGives taken.On s0.outputs.cnf db0 s0.derivation.lines s.outputs.cnf db s.derivation.lines) (LineGives (taken.Denied d) s.outputs.cnf db s.derivation.lines s'.outputs.cnf db' s'.derivation.lines)
    (λ c p c' p'. StepsGive (Some (Rejected number d)) s0.outputs.cnf db0 s0.derivation.lines s'.derivation.lines c p p')
    (λ t0 u0 t1 u1 t2 u2 p q task vars. subst (λ (n : ℕ). Walks task (at_steps db0) (clauses_of s0.outputs.cnf t0) (rows_left s0.derivation.lines u0) (Ok (Rejected n d))) (sym at) (p task (Ok (Rejected s'.derivation.lines.number d)) vars (q task (vars ∙ sym same_vars))))
    before (subst (λ (u : Taken). GivesLine u db s db' s' b c) is line)

pub runs_stop : (f : CheckFault) (s0 s s' : Session) (db0 db : Database) (a b c : DeskState) → s.outputs.cnf.vars ≡ s0.outputs.cnf.vars → GivesLine taken.On db0 s0 db s a b → StopsAmong f db s s' b c → StopsAmong f db0 s0 s' a c
runs_stop f s0 s s' db0 db a b c same_vars before stops =
    both_stops (TaskOver s.outputs.cnf) (TaskOver s0.outputs.cnf) f s0.outputs.cnf.lines s0.derivation.lines s.outputs.cnf.lines s.derivation.lines s'.outputs.cnf.lines s'.derivation.lines a b c (LineGives taken.On s0.outputs.cnf db0 s0.derivation.lines s.outputs.cnf db s.derivation.lines) (StepsCome s.outputs.cnf db s.derivation.lines) (StepsCome s0.outputs.cnf db0 s0.derivation.lines)
    (λ x. ((x.0, x.1 ∙ sym same_vars), λ t u t' u' answer p w. p x.0 answer x.1 w)) before stops
