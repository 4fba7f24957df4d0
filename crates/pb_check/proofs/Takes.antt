-- Steps, with the clauses that come as they are needed.
use Rattle.std.proofs.Common.{◌≡◌, ◌+◌, ℕ, List, [], ◌++◌, Option, Some, None, refl, sym, ap, ◌∙◌, subst}
use Rattle.std.specs.Prelude.{◌≢◌, IfSome, Result, Ok, Err, IfErr, IfOk}
use Rattle.std.proofs.lemmas.List.{append-nil}
use Rattle.pb_desk.proofs.ReadLemmas.{fails_weaker, reads_weaker}
use Rattle.pb_check.specs.declared.verdict.CheckFault.{CheckFault}
use Rattle.pb_base.specs.declared.literal.Lit.{Lit}
use Rattle.pb_desk.specs.Desk.{DeskState}
use Rattle.pb_desk.specs.LineReading.{TakesAhead}
use Rattle.pb_dimacs.specs.CnfReaders.{CnfReader, symbols_left, StopsNext}
use Rattle.pb_dimacs.specs.declared.fault.CnfFault.{CnfFault}
use Rattle.pb_dimacs.specs.declared.fault.CnfFault.TheVariants as cnf_fault
use Rattle.pb_dimacs.specs.CnfSymbols.{Next, next_of}
use Rattle.pb_dimacs.specs.CnfSymbols.Next.{clause, nothing, refused}
use Rattle.pb_dimacs.specs.Cursors.{rows_left, GivesNext}
use Rattle.pb_dimacs.specs.Within.{IsNextWithin, CouldPass}
use Rattle.pb_steps.specs.declared.step.Step.{Step}
use Rattle.pb_steps.specs.declared.step.Step.TheVariants.{Blank, Head, Loaded, Pol, Rup, Red, Del, Out, End}
use Rattle.pb_steps.specs.Database.{Database}
use Rattle.pb_check.specs.declared.taking.Taken.{Taken}
use Rattle.pb_steps.specs.Steps.{IsSpelled}
use Rattle.pb_check.specs.Turns.Stage.{at_steps}
use Rattle.pb_check.specs.Turns.{Answer, Task, Clauses, Turn, at_out, at_end, next_in, turn_by}
use Rattle.pb_check.specs.Turns.Turn.{stop}
use Rattle.pb_check.specs.inner.Judging.{IsJudged}
use Rattle.pb_check.specs.Faults.{of_cnf}
use Rattle.pb_check.specs.inner.Phases.{IsOpen, StopsOne, clauses_of, FollowsRows, OnLine, TurnGives}
use Rattle.pb_check.proofs.Answering.{SomeTurn, some-left, some-out, some-end}
use Rattle.pb_check.proofs.WithinAnswers.{PassesCnf, out_within, end_within}
use Rattle.pb_check.proofs.TurnLemmas.{judged_gives, clause_given, nothing_given, out_turn}

pub out_given : (next : Option (List Lit)) (t : Taken) (old new : CnfReader) (a b : DeskState) (db db' : Database) (id : ℕ) → GivesNext next old.vars old.left old.lines old.at new.lines new.at a b
    → IfSome next (λ _. new.left + 1 ≡ old.left) → IsJudged db (Out id) next db' t
    → TakesAhead old.lines.slot old.lines.ahead new.lines.ahead a b (λ text rest. (task : Task) (number : ℕ) → task.vars ≡ old.vars → TurnGives t task number (at_out db id (clauses_of old text) (next_in task (clauses_of old text))) db' (clauses_of new rest))
out_given None t old new a b db db' id given count judged =
    reads_weaker old.lines.slot old.lines.ahead new.lines.ahead a b (λ text rest. (next_of old.vars old.left (symbols_left old text) ≡ nothing) × (next_of old.vars old.left (symbols_left new rest) ≡ nothing))
    (λ text rest. (task : Task) (number : ℕ) → task.vars ≡ old.vars → TurnGives t task number (at_out db id (clauses_of old text) (next_in task (clauses_of old text))) db' (clauses_of new rest))
    (λ text rest p task number vars. out_turn t task number db db' id old text (clauses_of new rest) nothing vars p.0 (nothing_given t task number db db' id old new text rest judged)) given
out_given (Some ls) t old new a b db db' id given count judged =
    reads_weaker old.lines.slot old.lines.ahead new.lines.ahead a b (λ text rest. next_of old.vars old.left (symbols_left old text) ≡ clause ls (symbols_left new rest))
    (λ text rest. (task : Task) (number : ℕ) → task.vars ≡ old.vars → TurnGives t task number (at_out db id (clauses_of old text) (next_in task (clauses_of old text))) db' (clauses_of new rest))
    (λ text rest p task number vars. out_turn t task number db db' id old text (clauses_of new rest) (clause ls (symbols_left new rest)) vars p (clause_given t task number db db' id old new text rest ls count judged)) given

-- a rule that looks at no clause
pub rule_given : (s : Step) (t : Taken) (task : Task) (number : ℕ) (line : List ℕ) (db db' : Database) (old : CnfReader) (text : List ℕ) → s ≢ Blank → s ≢ Head → ((count : ℕ) → s ≢ Loaded count) → ((id : ℕ) → s ≢ Out id) → s ≢ End
    → IsJudged db s None db' t → TurnGives t task number (turn_by task (at_steps db) (clauses_of old text) number line s) db' (clauses_of old text)
rule_given Blank t task number line db db' old text a b c d e judged = absurd (a refl)
rule_given Head t task number line db db' old text a b c d e judged = absurd (b refl)
rule_given (Loaded count) t task number line db db' old text a b c d e judged = absurd (c count refl)
rule_given (Out id) t task number line db db' old text a b c d e judged = absurd (d id refl)
rule_given End t task number line db db' old text a b c d e judged = absurd (e refl)
rule_given (Pol ops) t task number line db db' old text a b c d e judged = judged_gives t task number db db' (Pol ops) None (clauses_of old text) judged
rule_given (Rup ts right ids) t task number line db db' old text a b c d e judged = judged_gives t task number db db' (Rup ts right ids) None (clauses_of old text) judged
rule_given (Red ts right sets) t task number line db db' old text a b c d e judged = judged_gives t task number db db' (Red ts right sets) None (clauses_of old text) judged
rule_given (Del ids) t task number line db db' old text a b c d e judged = judged_gives t task number db db' (Del ids) None (clauses_of old text) judged

-- ---- the next clause is not read

-- what a line asks by what the CNF gives next: it stops where that has a fault, has an answer in any case, and tells no limit of a length that the CNF does not pass
pub record AsksNext (old : CnfReader) (turn : OnLine old → Clauses → Next → Turn) : Type 0 where
  pub refuses : (x : OnLine old) (c : Clauses) (f : CnfFault) → turn x c (refused f) ≡ stop (Err (of_cnf f))
  pub answers : (x : OnLine old) (c : Clauses) (n : Next) → SomeTurn x.task (rows_left x.proof x.text) x.number (turn x c n)
  pub within : (x : OnLine old) (c : Clauses) (n : Next) (answer : Answer) → IsNextWithin n → FollowsRows x.task x.number (turn x c n) (rows_left x.proof x.text) answer → PassesCnf answer → ⊥

abbrev pub NextComes : (old : CnfReader) → (OnLine old → Clauses → Next → Turn) → OnLine old → List ℕ → Answer → Type 0
NextComes old turn x text answer = FollowsRows x.task x.number (turn x (clauses_of old text) (next_in x.task (clauses_of old text))) (rows_left x.proof x.text) answer

next_refused : (old : CnfReader) (turn : OnLine old → Clauses → Next → Turn) → AsksNext old turn → (x : OnLine old) (text : List ℕ) (f : CnfFault) → next_of old.vars old.left (symbols_left old text) ≡ refused f → NextComes old turn x text (Err (of_cnf f))
next_refused old turn asks x text f is =
    let next : next_in x.task (clauses_of old text) ≡ refused f = ap (λ (v : ℕ). next_of v old.left (symbols_left old text)) x.same_vars ∙ is in
    subst (λ (n : Next). FollowsRows x.task x.number (turn x (clauses_of old text) n) (rows_left x.proof x.text) (Err (of_cnf f))) (sym next)
    (subst (λ (t : Turn). FollowsRows x.task x.number t (rows_left x.proof x.text) (Err (of_cnf f))) (sym (asks.refuses x (clauses_of old text) f)) refl)

-- the CNF may end there, or a line go on until it passes a limit
next_open : (old : CnfReader) (turn : OnLine old → Clauses → Next → Turn) → AsksNext old turn → (bytes : List ℕ) → IsNextWithin (next_of old.vars old.left (symbols_left old bytes)) → CouldPass (λ text f. next_of old.vars old.left (symbols_left old text) ≡ refused f) bytes
    → (x : OnLine old) → IsOpen (NextComes old turn x) bytes
next_open old turn asks bytes within could x =
    let clauses = clauses_of old (bytes ++ []) in
    let next = next_in x.task clauses in
    let here = asks.answers x clauses next in
    let fault : CnfFault = cnf_fault.Limit could.place could.which in
    let short : IsNextWithin next =
    subst (λ (v : ℕ). IsNextWithin (next_of v old.left (symbols_left old (bytes ++ [])))) (sym x.same_vars) (subst (λ (xs : List ℕ). IsNextWithin (next_of old.vars old.left (symbols_left old xs))) (sym (append-nil bytes)) within) in
    record {
      one = record { behind = []; answer = here.0; comes = here.1 };
      two = record { behind = could.behind; answer = Err (of_cnf fault); comes = next_refused old turn asks x (bytes ++ could.behind) fault could.tells };
      apart = λ e. asks.within x clauses next here.0 short here.1 (subst PassesCnf (sym e) could.by_length);
    }

next_stops : (fault : CnfFault) (old new : CnfReader) (turn : OnLine old → Clauses → Next → Turn) (a b : DeskState) → AsksNext old turn → StopsNext fault old new a b → StopsOne (OnLine old) (of_cnf fault) old.lines new.lines a b (NextComes old turn)
next_stops cnf_fault.Failed old new turn a b asks stops =
    fails_weaker old.lines.slot old.lines.ahead a b (λ bytes. IsNextWithin (next_of old.vars old.left (symbols_left old bytes)) × CouldPass (λ text f. next_of old.vars old.left (symbols_left old text) ≡ refused f) bytes)
    (λ bytes. (x : OnLine old) → IsOpen (NextComes old turn x) bytes) (λ bytes h x. next_open old turn asks bytes h.0 h.1 x) stops
next_stops cnf_fault.NoMemory old new turn a b asks stops = stops
next_stops (cnf_fault.Token place e) old new turn a b asks stops =
    reads_weaker old.lines.slot old.lines.ahead new.lines.ahead a b (λ text rest. next_of old.vars old.left (symbols_left old text) ≡ refused (cnf_fault.Token place e)) (λ text rest. (x : OnLine old) → NextComes old turn x text (Err (of_cnf (cnf_fault.Token place e))))
    (λ text rest is x. next_refused old turn asks x text (cnf_fault.Token place e) is) stops
next_stops (cnf_fault.Limit place which) old new turn a b asks stops =
    reads_weaker old.lines.slot old.lines.ahead new.lines.ahead a b (λ text rest. next_of old.vars old.left (symbols_left old text) ≡ refused (cnf_fault.Limit place which)) (λ text rest. (x : OnLine old) → NextComes old turn x text (Err (of_cnf (cnf_fault.Limit place which))))
    (λ text rest is x. next_refused old turn asks x text (cnf_fault.Limit place which) is) stops

-- the fault that it has
pub clause_stops : (f : CheckFault) (fault : CnfFault) (old new : CnfReader) (turn : OnLine old → Clauses → Next → Turn) (a b : DeskState) → f ≡ of_cnf fault → AsksNext old turn → StopsNext fault old new a b → StopsOne (OnLine old) f old.lines new.lines a b (NextComes old turn)
clause_stops f fault old new turn a b is asks stops = subst (λ (f : CheckFault). StopsOne (OnLine old) f old.lines new.lines a b (NextComes old turn)) (sym is) (next_stops fault old new turn a b asks stops)

pub out_asks : (old : CnfReader) (db : Database) (id : ℕ) → IsSpelled (Out id) → AsksNext old (λ x c n. at_out db id c n)
out_asks old db id spelled = record {
  refuses = λ x c f. refl;
  answers = λ x c n. some-out x.task (rows_left x.proof x.text) x.number db id c spelled (some-left x.task x.proof x.text) n;
  within = λ x c n answer h w. out_within x.task x.number (rows_left x.proof x.text) db id c n answer h w;
}

pub end_asks : (old : CnfReader) → AsksNext old (λ x c n. at_end x.number c n)
end_asks old = record {
  refuses = λ x c f. refl;
  answers = λ x c n. some-end x.task (rows_left x.proof x.text) x.number c (some-left x.task x.proof x.text) n;
  within = λ x c n answer h w. end_within x.task x.number (rows_left x.proof x.text) c n answer h w;
}

pub at_err : {X : Type 0} (r : Result X CheckFault) (P Q : CheckFault → Type 0) → ((f : CheckFault) → P f → Q f) → IfErr r P → IfErr r Q
at_err (Ok x) P Q h p = tt
at_err (Err f) P Q h p = h f p

pub at_ok : {X : Type 0} (r : Result X CheckFault) (P Q : X → Type 0) → ((x : X) → P x → Q x) → IfOk r P → IfOk r Q
at_ok (Ok x) P Q h p = h x p
at_ok (Err f) P Q h p = tt
