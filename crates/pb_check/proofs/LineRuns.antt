-- All lines, from the first on.
use Rattle.std.proofs.Common.{◌≡◌, ℕ, List, [], Option, Some, None, Ok, refl, sym, ◌∙◌, subst}
use Rattle.std.specs.Prelude.{◌≢◌}
use Rattle.pb_desk.specs.Desk.{DeskState}
use Rattle.pb_desk.specs.LineReading.{TakesAhead}
use Rattle.pb_desk.specs.LineReaders.{Reader}
use Rattle.pb_dimacs.specs.CnfReaders.{CnfReader}
use Rattle.pb_dimacs.specs.Cursors.{rows_left}
use Rattle.pb_steps.specs.Database.{Database}
use Rattle.pb_check.specs.declared.verdict.Verdict.{Verdict}
use Rattle.pb_check.specs.declared.verdict.Verdict.TheVariants.{Accepted}
use Rattle.pb_check.specs.declared.verdict.CheckFault.{CheckFault}
use Rattle.pb_check.specs.Turns.{Answer, Task, Clauses}
use Rattle.pb_check.specs.Turns.Stage.{head_wanted, count_wanted, at_steps, ended}
use Rattle.pb_check.specs.Walk.{Walks}
use Rattle.pb_desk.specs.TwoSlots.{ReadsBoth}
use Rattle.pb_check.specs.inner.Calls.{CountLeads, TakesCount, TakesHead, TakesSteps, TaskOf}
use Rattle.pb_check.specs.inner.Phases.{StopsOne, StopsBoth, Leads, clauses_of, StepsGive, TaskOver, IsTask, TaskFrom, LinesAnswer}
use Rattle.pb_desk.proofs.BothSlots.{both_of_two, both_then}
use Rattle.pb_check.proofs.StepRuns.{StepsCome}
use Rattle.pb_check.proofs.WithinAnswers.{ended_same}
use Rattle.pb_check.proofs.BothStops.{stops_of_proof, both_stops}

-- the head line was read
abbrev pub Begun : Reader → Reader → List ℕ → List ℕ → List ℕ → List ℕ → Type 0
Begun l0 l1 c p c' p' = (c' ≡ c) × Leads count_wanted (rows_left l1 p') head_wanted (rows_left l0 p)

-- the steps are to come
abbrev pub Ready : CnfReader → Database → ℕ → Reader → Reader → List ℕ → List ℕ → List ℕ → List ℕ → Type 0
Ready cnf db count l0 l2 c p c' p' = (task : Task) (answer : Answer) → IsTask task cnf.vars count db → Walks task (at_steps db) (clauses_of cnf c') (rows_left l2 p') answer → Walks task head_wanted (clauses_of cnf c) (rows_left l0 p) answer

-- nothing more is to come
abbrev pub Done : CnfReader → Database → ℕ → Reader → Reader → List ℕ → List ℕ → List ℕ → List ℕ → Type 0
Done cnf db count l0 l3 c p c' p' = (task : Task) (answer : Answer) → IsTask task cnf.vars count db → ((cs : Clauses) → Walks task ended cs (rows_left l3 p') answer) → Walks task head_wanted (clauses_of cnf c) (rows_left l0 p) answer

pub apart_then : (cnf proof cnf' proof' : Reader) (a b : DeskState) (P : List ℕ → List ℕ → List ℕ → List ℕ → Type 0) → ReadsBoth cnf proof cnf' proof' a b P → cnf'.slot ≢ proof'.slot
apart_then cnf proof cnf' proof' a b P reads e = reads.apart (sym reads.one_slot ∙ e ∙ reads.two_slot)

begun : (cnf : CnfReader) (l0 l1 : Reader) (a b : DeskState) → cnf.lines.slot ≢ l0.slot → l1.slot ≡ l0.slot → TakesAhead l0.slot l0.ahead l1.ahead a b (λ text rest. Leads count_wanted (rows_left l1 rest) head_wanted (rows_left l0 text)) → ReadsBoth cnf.lines l0 cnf.lines l1 a b (Begun l0 l1)
begun cnf l0 l1 a b apart slot reads = both_of_two cnf.lines l0 l1 a b (λ text rest. Leads count_wanted (rows_left l1 rest) head_wanted (rows_left l0 text)) (Begun l0 l1) apart slot (λ c p p' h. (refl, h)) reads

ready : (cnf : CnfReader) (db : Database) (count : ℕ) (l0 l1 l2 : Reader) (a b d : DeskState) → cnf.lines.slot ≢ l1.slot → l2.slot ≡ l1.slot → ReadsBoth cnf.lines l0 cnf.lines l1 a b (Begun l0 l1) → TakesAhead l1.slot l1.ahead l2.ahead b d (CountLeads count l1 l2)
    → ReadsBoth cnf.lines l0 cnf.lines l2 a d (Ready cnf db count l0 l2)
ready cnf db count l0 l1 l2 a b d apart slot first reads =
    both_then cnf.lines l0 cnf.lines l1 cnf.lines l2 a b d (Begun l0 l1) (λ c p c' p'. (c' ≡ c) × CountLeads count l1 l2 p p') (Ready cnf db count l0 l2)
    (λ t0 u0 t1 u1 t2 u2 p q task answer is w. p.1 task (clauses_of cnf t0) answer (q.1 task (clauses_of cnf t0) answer is.same_count
    (subst (λ (x : Database). Walks task (at_steps x) (clauses_of cnf t0) (rows_left l2 u2) answer) is.database
    (subst (λ (x : List ℕ). Walks task (at_steps db) (clauses_of cnf x) (rows_left l2 u2) answer) (q.0 ∙ p.0) w))))
    first (both_of_two cnf.lines l1 l2 b d (CountLeads count l1 l2) (λ c p c' p'. (c' ≡ c) × CountLeads count l1 l2 p p') apart slot (λ c p p' h. (refl, h)) reads)

-- the lines before the steps were read
pub started : (cnf : CnfReader) (db : Database) (count : ℕ) (l0 l1 l2 : Reader) (a b d : DeskState) → cnf.lines.slot ≢ l0.slot → l1.slot ≡ l0.slot → l2.slot ≡ l1.slot → TakesHead l0 l1 a b → TakesCount count l1 l2 b d → ReadsBoth cnf.lines l0 cnf.lines l2 a d (Ready cnf db count l0 l2)
started cnf db count l0 l1 l2 a b d apart slot slot' head counted =
    let first = begun cnf l0 l1 a b apart slot head in
    ready cnf db count l0 l1 l2 a b d (apart_then cnf.lines l0 cnf.lines l1 a b (Begun l0 l1) first) slot' first counted

-- the answer from the first line on
abbrev pub LinesCome : (cnf : CnfReader) (db : Database) (count : ℕ) → Reader → TaskFrom cnf db count → List ℕ → List ℕ → Answer → Type 0
LinesCome cnf db count l0 x c p answer = Walks x.0 head_wanted (clauses_of cnf c) (rows_left l0 p) answer

pub head_fault : (f : CheckFault) (cnf : CnfReader) (db : Database) (count : ℕ) (l0 l1 : Reader) (a b : DeskState) → cnf.lines.slot ≢ l0.slot → l1.slot ≡ l0.slot
    → StopsOne (Task × Clauses) f l0 l1 a b (λ x text answer. Walks x.0 head_wanted x.1 (rows_left l0 text) answer) → StopsBoth (TaskFrom cnf db count) f cnf.lines l0 cnf.lines l1 a b (LinesCome cnf db count l0)
head_fault f cnf db count l0 l1 a b apart slot stops =
    stops_of_proof (Task × Clauses) (TaskFrom cnf db count) f cnf.lines l0 l1 a b (λ x text answer. Walks x.0 head_wanted x.1 (rows_left l0 text) answer) (LinesCome cnf db count l0) apart slot (λ x c. ((x.0, clauses_of cnf c), λ p answer w. w)) stops

pub count_fault : (f : CheckFault) (cnf : CnfReader) (db : Database) (count : ℕ) (l0 l1 l2 : Reader) (a b d : DeskState) → cnf.lines.slot ≢ l0.slot → l1.slot ≡ l0.slot → l2.slot ≡ l1.slot → TakesHead l0 l1 a b
    → StopsOne (TaskOf count) f l1 l2 b d (λ x text answer. Walks x.0 count_wanted x.1 (rows_left l1 text) answer) → StopsBoth (TaskFrom cnf db count) f cnf.lines l0 cnf.lines l2 a d (LinesCome cnf db count l0)
count_fault f cnf db count l0 l1 l2 a b d apart slot slot' head stops =
    let first = begun cnf l0 l1 a b apart slot head in
    let Comes = λ (x : TaskFrom cnf db count) (c p : List ℕ) (answer : Answer). Walks x.0 count_wanted (clauses_of cnf c) (rows_left l1 p) answer in
    both_stops (TaskFrom cnf db count) (TaskFrom cnf db count) f cnf.lines l0 cnf.lines l1 cnf.lines l2 a b d (Begun l0 l1) Comes (LinesCome cnf db count l0)
    (λ x. (x, λ t u t' u' answer p w. p.1 x.0 (clauses_of cnf t) answer (subst (λ (v : List ℕ). Walks x.0 count_wanted (clauses_of cnf v) (rows_left l1 u') answer) p.0 w))) first
    (stops_of_proof (TaskOf count) (TaskFrom cnf db count) f cnf.lines l1 l2 b d (λ x text answer. Walks x.0 count_wanted x.1 (rows_left l1 text) answer) Comes (apart_then cnf.lines l0 cnf.lines l1 a b (Begun l0 l1) first) slot' (λ x c. ((x.0, clauses_of cnf c, x.1.same_count), λ p answer w. w)) stops)

pub steps_fault : (f : CheckFault) (cnf cnf' : CnfReader) (db : Database) (count : ℕ) (l0 l2 l3 : Reader) (a d e : DeskState) → ReadsBoth cnf.lines l0 cnf.lines l2 a d (Ready cnf db count l0 l2) → StopsBoth (TaskOver cnf) f cnf.lines l2 cnf'.lines l3 d e (StepsCome cnf db l2)
    → StopsBoth (TaskFrom cnf db count) f cnf.lines l0 cnf'.lines l3 a e (LinesCome cnf db count l0)
steps_fault f cnf cnf' db count l0 l2 l3 a d e first stops =
    both_stops (TaskOver cnf) (TaskFrom cnf db count) f cnf.lines l0 cnf.lines l2 cnf'.lines l3 a d e (Ready cnf db count l0 l2) (StepsCome cnf db l2) (LinesCome cnf db count l0)
    (λ x. ((x.0, x.1.same_vars), λ t u t' u' answer p w. p x.0 answer x.1 w)) first stops

pub steps_verdict : (o : Option Verdict) (v : Verdict) (cnf cnf' : CnfReader) (db : Database) (count : ℕ) (l0 l2 l3 : Reader) (a d e : DeskState) → o ≡ Some v → ReadsBoth cnf.lines l0 cnf.lines l2 a d (Ready cnf db count l0 l2) → TakesSteps o cnf db l2 cnf' l3 d e
    → ReadsBoth cnf.lines l0 cnf'.lines l3 a e (λ c p c' p'. LinesAnswer cnf db count l0 c p (Ok v))
steps_verdict o v cnf cnf' db count l0 l2 l3 a d e is first steps =
    both_then cnf.lines l0 cnf.lines l2 cnf'.lines l3 a d e (Ready cnf db count l0 l2) (λ c p c' p'. StepsGive (Some v) cnf db l2 l3 c p p') (λ c p c' p'. LinesAnswer cnf db count l0 c p (Ok v)) (λ t0 u0 t1 u1 t2 u2 p q task is. p task (Ok v) is (q task is.same_vars)) first
    (subst (λ (o : Option Verdict). TakesSteps o cnf db l2 cnf' l3 d e) is steps)

done : (o : Option Verdict) (cnf cnf' : CnfReader) (db : Database) (count : ℕ) (l0 l2 l3 : Reader) (a d e : DeskState) → o ≡ None → ReadsBoth cnf.lines l0 cnf.lines l2 a d (Ready cnf db count l0 l2) → TakesSteps o cnf db l2 cnf' l3 d e → ReadsBoth cnf.lines l0 cnf'.lines l3 a e (Done cnf db count l0 l3)
done o cnf cnf' db count l0 l2 l3 a d e is first steps =
    both_then cnf.lines l0 cnf.lines l2 cnf'.lines l3 a d e (Ready cnf db count l0 l2) (λ c p c' p'. StepsGive None cnf db l2 l3 c p p') (Done cnf db count l0 l3) (λ t0 u0 t1 u1 t2 u2 p q task answer is w. p task answer is (q task answer is.same_vars w)) first
    (subst (λ (o : Option Verdict). TakesSteps o cnf db l2 cnf' l3 d e) is steps)

pub rest_verdict : (o : Option Verdict) (cnf cnf' : CnfReader) (db : Database) (count : ℕ) (l0 l2 l3 l4 : Reader) (a d e h : DeskState) → o ≡ None → l4.slot ≡ l3.slot → ReadsBoth cnf.lines l0 cnf.lines l2 a d (Ready cnf db count l0 l2) → TakesSteps o cnf db l2 cnf' l3 d e
    → TakesAhead l3.slot l3.ahead l4.ahead e h (λ text rest. (task : Task) (clauses : Clauses) → Walks task ended clauses (rows_left l3 text) (Ok Accepted)) → ReadsBoth cnf.lines l0 cnf'.lines l4 a h (λ c p c' p'. LinesAnswer cnf db count l0 c p (Ok Accepted))
rest_verdict o cnf cnf' db count l0 l2 l3 l4 a d e h is slot ready steps reads =
    let first = done o cnf cnf' db count l0 l2 l3 a d e is ready steps in
    let apart = apart_then cnf.lines l0 cnf'.lines l3 a e (Done cnf db count l0 l3) first in
    both_then cnf.lines l0 cnf'.lines l3 cnf'.lines l4 a e h (Done cnf db count l0 l3) (λ c p c' p'. (task : Task) (clauses : Clauses) → Walks task ended clauses (rows_left l3 p) (Ok Accepted)) (λ c p c' p'. LinesAnswer cnf db count l0 c p (Ok Accepted))
    (λ t0 u0 t1 u1 t2 u2 p q task from. p task (Ok Accepted) from (q task)) first
    (both_of_two cnf'.lines l3 l4 e h (λ text rest. (task : Task) (clauses : Clauses) → Walks task ended clauses (rows_left l3 text) (Ok Accepted)) (λ c p c' p'. (task : Task) (clauses : Clauses) → Walks task ended clauses (rows_left l3 p) (Ok Accepted)) apart slot (λ c p p' h. h) reads)

-- behind the steps no clause is asked for
abbrev no_clauses : Clauses
no_clauses = record { left = 0; symbols = [] }

pub rest_fault : (f : CheckFault) (o : Option Verdict) (cnf cnf' : CnfReader) (db : Database) (count : ℕ) (l0 l2 l3 l4 : Reader) (a d e h : DeskState) → o ≡ None → l4.slot ≡ l3.slot → ReadsBoth cnf.lines l0 cnf.lines l2 a d (Ready cnf db count l0 l2) → TakesSteps o cnf db l2 cnf' l3 d e
    → StopsOne (Task × Clauses) f l3 l4 e h (λ x text answer. Walks x.0 ended x.1 (rows_left l3 text) answer) → StopsBoth (TaskFrom cnf db count) f cnf.lines l0 cnf'.lines l4 a h (LinesCome cnf db count l0)
rest_fault f o cnf cnf' db count l0 l2 l3 l4 a d e h is slot ready steps stops =
    let first = done o cnf cnf' db count l0 l2 l3 a d e is ready steps in
    let apart = apart_then cnf.lines l0 cnf'.lines l3 a e (Done cnf db count l0 l3) first in
    let Comes = λ (x : TaskFrom cnf db count) (c p : List ℕ) (answer : Answer). Walks x.0 ended no_clauses (rows_left l3 p) answer in
    both_stops (TaskFrom cnf db count) (TaskFrom cnf db count) f cnf.lines l0 cnf'.lines l3 cnf'.lines l4 a e h (Done cnf db count l0 l3) Comes (LinesCome cnf db count l0)
    (λ x. (x, λ t u t' u' answer p w. p x.0 answer x.1 (λ cs. ended_same x.0 (rows_left l3 u') no_clauses cs answer w))) first
    (stops_of_proof (Task × Clauses) (TaskFrom cnf db count) f cnf'.lines l3 l4 e h (λ x text answer. Walks x.0 ended x.1 (rows_left l3 text) answer) Comes apart slot (λ x c. ((x.0, no_clauses), λ p answer w. w)) stops)
