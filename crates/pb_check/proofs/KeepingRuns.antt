-- What is kept from line to line, and of both texts from their first bytes on.
use Rattle.std.proofs.Common.{◌≡◌, ℕ, true, List, [], ◌++◌, Option, Some, None, refl, sym, ap, ◌∙◌, subst}
use Rattle.std.specs.Prelude.{◌≢◌, Result, IfOk, IfSome}
use Rattle.pb_desk.specs.View.{Told}
use Rattle.pb_base.specs.declared.literal.Lit.{Lit}
use Rattle.pb_base.specs.declared.problem.Problem.{Problem}
use Rattle.pb_desk.specs.Desk.{DeskState, IfKept}
use Rattle.pb_desk.specs.LineReading.{TakesAhead}
use Rattle.pb_desk.specs.LineReaders.{Reader}
use Rattle.pb_desk.specs.TwoSlots.{ReadsBoth, TakesBoth}
use Rattle.pb_desk.proofs.BothSlots.{both_begin, both_of_one, both_of_two, both_then}
use Rattle.pb_dimacs.specs.declared.head.CnfHead.{CnfHead}
use Rattle.pb_dimacs.specs.CnfReaders.{CnfReader, symbols_left, GivesHead}
use Rattle.pb_dimacs.specs.CnfRows.{rows_of}
use Rattle.pb_dimacs.specs.CnfSymbols.{start_of}
use Rattle.pb_dimacs.specs.CnfSymbols.Start.{told}
use Rattle.pb_dimacs.specs.CnfWhole.{told_after, told_from}
use Rattle.pb_dimacs.specs.CnfWhole.CnfTold.{says}
use Rattle.pb_dimacs.specs.Cursors.{rows_left}
use Rattle.pb_dimacs.proofs.FormLemmas.{start_rows}
use Rattle.pb_steps.specs.declared.step.Step.{Step}
use Rattle.pb_steps.specs.Database.{Database}
use Rattle.pb_steps.specs.declared.denied.Denied.{Denied}
use Rattle.pb_check.specs.declared.kept.CollectedClauses.{CollectedClauses}
use Rattle.pb_check.specs.declared.session.Session.{Session}
use Rattle.pb_check.specs.declared.taking.Taken.{Taken}
use Rattle.pb_check.specs.declared.taking.Taken.TheVariants as taken
use Rattle.pb_check.specs.declared.verdict.CheckFault.{CheckFault}
use Rattle.pb_check.specs.declared.verdict.Verdict.{Verdict}
use Rattle.pb_check.specs.declared.verdict.Verdict.TheVariants.{Accepted, Rejected}
use Rattle.pb_check.specs.KeptClauses.{HasVars, IsKept, SaysClauses}
use Rattle.pb_check.specs.inner.Judging.{IsJudged}
use Rattle.pb_check.specs.inner.Keeping.{Tells, Keeps, KeepsNext, KeepsLine, KeepsLines, KeepsSteps, KeptAll, KeptSoFar}
use Rattle.pb_check.specs.inner.Sessions.{KeepsOne, KeepsSome}
use Rattle.pb_check.proofs.Takes.{at_ok}
use Rattle.pb_check.proofs.WholeRuns.{AreNew, apart_new, takes_new, started_with, Started}

-- a rule is no last line
pub judged_not_last : (db db' : Database) (s : Step) (next : Option (List Lit)) (t : Taken) → IsJudged db s next db' t → t ≢ taken.Last
judged_not_last db db' s next taken.On judged e = cc
judged_not_last db db' s next taken.Last judged e = judged
judged_not_last db db' s next (taken.Denied d) judged e = cc

-- ---- the other reader goes on, and nothing moves in the CNF

pub waits : (r : Reader) (l l' : Reader) (a b : DeskState) (P : List ℕ → List ℕ → Type 0) → r.slot ≢ l.slot → l'.slot ≡ l.slot → TakesAhead l.slot l.ahead l'.ahead a b P → ReadsBoth r l r l' a b (λ c p c' p'. c' ≡ c)
waits r l l' a b P apart slot reads = both_of_two r l l' a b P (λ c p c' p'. c' ≡ c) apart slot (λ c p p' h. refl) reads

-- the lines before the steps were read
pub waits_twice : (r l0 l1 l2 : Reader) (a b d : DeskState) (P Q : List ℕ → List ℕ → Type 0) → r.slot ≢ l0.slot → l1.slot ≡ l0.slot → l2.slot ≡ l1.slot → TakesAhead l0.slot l0.ahead l1.ahead a b P → TakesAhead l1.slot l1.ahead l2.ahead b d Q → ReadsBoth r l0 r l2 a d (λ c p c' p'. c' ≡ c)
waits_twice r l0 l1 l2 a b d P Q apart slot slot' first second =
    let head = waits r l0 l1 a b P apart slot first in
    both_then r l0 r l1 r l2 a b d (λ c p c' p'. c' ≡ c) (λ c p c' p'. c' ≡ c) (λ c p c' p'. c' ≡ c) (λ t0 u0 t1 u1 t2 u2 p q. q ∙ p) head
    (waits r l1 l2 b d Q (λ e. head.apart (sym head.one_slot ∙ e ∙ head.two_slot)) slot' second)

-- what is said from there on of what is left of the CNF, also from here on
behind : (r r' l0 l1 l2 : Reader) (a b d : DeskState) (Q : List ℕ → List ℕ → Type 0) → ReadsBoth r l0 r l1 a b (λ c p c' p'. c' ≡ c) → ReadsBoth r l1 r' l2 b d (λ c p c' p'. Q c c') → ReadsBoth r l0 r' l2 a d (λ c p c' p'. Q c c')
behind r r' l0 l1 l2 a b d Q first second =
    both_then r l0 r l1 r' l2 a b d (λ c p c' p'. c' ≡ c) (λ c p c' p'. Q c c') (λ c p c' p'. Q c c') (λ t0 u0 t1 u1 t2 u2 p q. subst (λ (x : List ℕ). Q x t2) p q) first second

pub before : (r r' l0 l1 l2 : Reader) (a b d : DeskState) (Q : List ℕ → Type 0) → ReadsBoth r l0 r' l1 a b (λ c p c' p'. Q c) → ReadsBoth r' l1 r' l2 b d (λ c p c' p'. c' ≡ c) → ReadsBoth r l0 r' l2 a d (λ c p c' p'. Q c)
before r r' l0 l1 l2 a b d Q first second =
    both_then r l0 r' l1 r' l2 a b d (λ c p c' p'. Q c) (λ c p c' p'. c' ≡ c) (λ c p c' p'. Q c) (λ t0 u0 t1 u1 t2 u2 p q. p) first second

-- what the steps kept, by the verdict
pub kept_behind : (o w : Option Verdict) (k k' : CollectedClauses) (r r' : CnfReader) (l0 l1 l2 : Reader) (a b d : DeskState) → o ≡ w → ReadsBoth r.lines l0 r.lines l1 a b (λ c p c' p'. c' ≡ c) → KeepsSteps o k r l1 k' r' l2 b d → KeepsSteps w k r l0 k' r' l2 a d
kept_behind o w k k' r r' l0 l1 l2 a b d is first second =
    behind r.lines r'.lines l0 l1 l2 a b d (λ x x'. KeptSoFar w k r k' x) first (subst (λ (u : Option Verdict). KeepsSteps u k r l1 k' r' l2 b d) is second)

-- ---- lines among the steps

line_keeps : (t : Taken) (k k' : CollectedClauses) (r r' : CnfReader) (l l' : Reader) (a b d : DeskState) (P : List ℕ → List ℕ → Type 0) → r.lines.slot ≢ l.slot → l'.slot ≡ l.slot → r'.lines.slot ≡ r.lines.slot
    → TakesAhead l.slot l.ahead l'.ahead a b P → KeepsNext t k r k' r' b d → KeepsLine t k r l k' r' l' a d
line_keeps t k k' r r' l l' a b d P apart slot slot' line step =
    behind r.lines r'.lines l l' l' a b d (Keeps t k r k' r') (waits r.lines l l' a b P apart slot line)
    (both_of_one r.lines r'.lines l' b d (Keeps t k r k' r') (λ c p c' p'. Keeps t k r k' r' c c') (λ e. apart (e ∙ slot)) slot' (λ c p c' h. h) step)

pub got_keeps : (got : Result Taken CheckFault) (k k' : CollectedClauses) (r r' : CnfReader) (l l' : Reader) (a b d : DeskState) (P : List ℕ → List ℕ → Type 0) → r.lines.slot ≢ l.slot → l'.slot ≡ l.slot → r'.lines.slot ≡ r.lines.slot
    → TakesAhead l.slot l.ahead l'.ahead a b P → IfOk got (λ t. KeepsNext t k r k' r' b d) → IfOk got (λ t. KeepsLine t k r l k' r' l' a d)
got_keeps got k k' r r' l l' a b d P apart slot slot' line keeps =
    at_ok got (λ t. KeepsNext t k r k' r' b d) (λ t. KeepsLine t k r l k' r' l' a d) (λ t. line_keeps t k k' r r' l l' a b d P apart slot slot' line) keeps

pub none_kept : (k : CollectedClauses) (r : CnfReader) (l : Reader) (a : DeskState) → r.lines.slot ≢ l.slot → KeepsLine taken.On k r l k r l a a
none_kept k r l a apart = both_begin r.lines l a (λ c p c' p'. Keeps taken.On k r k r c c') apart (λ t u. (refl, λ all tells. tells))

pub keeps_on : (t : Taken) (s0 s s' : Session) (a b d : DeskState) → t ≡ taken.On → KeepsOne taken.On s0 s a b → KeepsOne t s s' b d → KeepsOne taken.On s0 s' a d
keeps_on t s0 s s' a b d is before line =
    both_then s0.outputs.cnf.lines s0.derivation.lines s.outputs.cnf.lines s.derivation.lines s'.outputs.cnf.lines s'.derivation.lines a b d (λ c p c' p'. Keeps taken.On s0.outputs.kept s0.outputs.cnf s.outputs.kept s.outputs.cnf c c') (λ c p c' p'. Keeps taken.On s.outputs.kept s.outputs.cnf s'.outputs.kept s'.outputs.cnf c c') (λ c p c' p'. Keeps taken.On s0.outputs.kept s0.outputs.cnf s'.outputs.kept s'.outputs.cnf c c')
    (λ t0 u0 t1 u1 t2 u2 p q. (q.0 ∙ p.0, λ all tells. p.1 all (q.1 all tells))) before (subst (λ (u : Taken). KeepsOne u s s' b d) is line)

pub keeps_out : (t : Taken) (s0 s s' : Session) (a b d : DeskState) → t ≡ taken.Last → KeepsOne taken.On s0 s a b → KeepsOne t s s' b d → KeepsSome None s0 s' a d
keeps_out t s0 s s' a b d is before line =
    both_then s0.outputs.cnf.lines s0.derivation.lines s.outputs.cnf.lines s.derivation.lines s'.outputs.cnf.lines s'.derivation.lines a b d (λ c p c' p'. Keeps taken.On s0.outputs.kept s0.outputs.cnf s.outputs.kept s.outputs.cnf c c') (λ c p c' p'. Keeps taken.Last s.outputs.kept s.outputs.cnf s'.outputs.kept s'.outputs.cnf c c') (λ c p c' p'. Tells s0.outputs.kept s0.outputs.cnf c s'.outputs.kept.clauses)
    (λ t0 u0 t1 u1 t2 u2 p q. p.1 s'.outputs.kept.clauses q) before (subst (λ (u : Taken). KeepsOne u s s' b d) is line)

pub keeps_denied : (t : Taken) (s0 s s' : Session) (a b d : DeskState) (number : ℕ) (denied : Denied) → KeepsOne taken.On s0 s a b → KeepsOne t s s' b d → KeepsSome (Some (Rejected number denied)) s0 s' a d
keeps_denied t s0 s s' a b d number denied before line =
    both_then s0.outputs.cnf.lines s0.derivation.lines s.outputs.cnf.lines s.derivation.lines s'.outputs.cnf.lines s'.derivation.lines a b d (λ c p c' p'. Keeps taken.On s0.outputs.kept s0.outputs.cnf s.outputs.kept s.outputs.cnf c c') (λ c p c' p'. Keeps t s.outputs.kept s.outputs.cnf s'.outputs.kept s'.outputs.cnf c c') (λ c p c' p'. Unit {0}) (λ t0 u0 t1 u1 t2 u2 p q. tt) before line

-- ---- from the first byte of both texts on

start_is : (x y : ℕ) (cnf : CnfReader) (proof : Reader) (head : CnfHead) (cnf' : CnfReader) (text rest : List ℕ) → AreNew x y cnf proof → start_of (rows_left cnf.lines text) ≡ told head (symbols_left cnf' rest) → start_of (rows_of text) ≡ told head (symbols_left cnf' rest)
start_is x y cnf proof head cnf' text rest new start =
    ap start_of (sym (ap (λ (r : CnfReader). rows_left r.lines text) new.cnf_new ∙ start_rows x text)) ∙ start

pub vars_told : (p : Problem) (x y : ℕ) (cnf cnf' : CnfReader) (proof : Reader) (head : CnfHead) (a b : DeskState) → AreNew x y cnf proof → x ≢ y → cnf'.lines.slot ≡ cnf.lines.slot → GivesHead head cnf cnf' a b → IfKept a b (λ t. HasVars (t.left x) head.vars)
vars_told p x y cnf cnf' proof head a b new apart slot given =
    let takes : TakesBoth x y (λ c d. HasVars c head.vars) a b =
    takes_new p x y cnf cnf' proof proof a b (Started head cnf cnf') (λ c d. HasVars c head.vars) new
    (λ c d c' d' started. record { head = head; behind = symbols_left cnf' c'; starts = start_is x y cnf proof head cnf' c c' new started.0; vars_are = refl })
    (started_with head cnf cnf' proof a b (apart_new x y cnf proof new apart) slot given) in
    takes.texts

all_said : (head : CnfHead) (cnf' : CnfReader) (k k' : CollectedClauses) (text rest : List ℕ) → cnf'.vars ≡ head.vars → cnf'.left ≡ head.clauses → k.wanted ≡ true → k.clauses ≡ [] → start_of (rows_of text) ≡ told head (symbols_left cnf' rest)
    → Tells k cnf' rest k'.clauses → SaysClauses text head.vars k'.clauses
all_said head cnf' k k' text rest vars left wanted none start tells =
    let whole = tells wanted in
    let all : k'.clauses ≡ whole.later = whole.all_are ∙ ap (λ (cs : List (List Lit)). cs ++ whole.later) none in
    record {
      head = head;
      says_all = ap told_after start ∙ ap (λ (n : ℕ). told_from head n (symbols_left cnf' rest)) (sym left) ∙ whole.tells head (sym vars) ∙ ap (says head) (sym all);
      vars_are = refl;
    }

pub clauses_told : (p : Problem) (x y : ℕ) (cnf cnf' cnf'' : CnfReader) (proof proof' : Reader) (head : CnfHead) (k k' : CollectedClauses) (a b d : DeskState) → AreNew x y cnf proof → x ≢ y → cnf'.lines.slot ≡ cnf.lines.slot → cnf'.vars ≡ head.vars → cnf'.left ≡ head.clauses
    → k.wanted ≡ true → k.clauses ≡ [] → GivesHead head cnf cnf' a b → KeepsLines Accepted k cnf' proof k' cnf'' proof' b d → IfKept a d (λ t. SaysClauses (t.left x) head.vars k'.clauses)
clauses_told p x y cnf cnf' cnf'' proof proof' head k k' a b d new apart slot vars left wanted none given keeps =
    let takes : TakesBoth x y (λ c q. SaysClauses c head.vars k'.clauses) a d =
    takes_new p x y cnf cnf'' proof proof' a d (λ c q c' q'. SaysClauses c head.vars k'.clauses) (λ c q. SaysClauses c head.vars k'.clauses) new (λ c q c' q' h. h)
    (both_then cnf.lines proof cnf'.lines proof cnf''.lines proof' a b d (Started head cnf cnf') (λ c q c' q'. KeptAll Accepted k cnf' k' c) (λ c q c' q'. SaysClauses c head.vars k'.clauses)
    (λ t0 u0 t1 u1 t2 u2 started tells. all_said head cnf' k k' t0 t1 vars left wanted none (start_is x y cnf proof head cnf' t0 t1 new started.0) tells)
    (started_with head cnf cnf' proof a b (apart_new x y cnf proof new apart) slot given) keeps) in
    takes.texts

-- ---- by the verdict

pub kept_all : (a b : DeskState) (x : ℕ) (v : Verdict) (vars : ℕ) (clauses : List (List Lit)) → v ≡ Accepted → IfKept a b (λ t. SaysClauses (t.left x) vars clauses) → IfKept a b (λ t. IsKept v (t.left x) vars clauses)
kept_all a b x v vars clauses is holds = subst (λ (w : Verdict). IfKept a b (λ t. IsKept w (t.left x) vars clauses)) (sym is) holds

pub kept_none : (a b : DeskState) (x : ℕ) (v : Verdict) (vars : ℕ) (clauses : List (List Lit)) (line : ℕ) (denied : Denied) → v ≡ Rejected line denied → clauses ≡ [] → IfKept a b (λ t. HasVars (t.left x) vars) → IfKept a b (λ t. IsKept v (t.left x) vars clauses)
kept_none a b x v vars clauses line denied is none has = subst (λ (w : Verdict). IfKept a b (λ t. IsKept w (t.left x) vars clauses)) (sym is) (λ k. by_cases a.view.told (has k))
  where
    by_cases : (told : Option Told) → IfSome told (λ t. HasVars (t.left x) vars) → IfSome told (λ t. IsKept (Rejected line denied) (t.left x) vars clauses)
    by_cases None has = tt
    by_cases (Some t) has = (has, none)
