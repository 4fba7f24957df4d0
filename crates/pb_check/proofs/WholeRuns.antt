-- All of both texts, from the p line on.
use Rattle.std.proofs.Common.{◌≡◌, ◌≤◌, ◌<◌, ℕ, Bool, true, false, List, [], ◌++◌, length, Err, refl, sym, ap, ◌∙◌, subst, arith, leb}
use Rattle.std.specs.Prelude.{◌≢◌}
use Rattle.std.proofs.lemmas.Bool.{leb-true, le-leb}
use Rattle.std.proofs.lemmas.List.{append-nil}
use Rattle.pb_desk.proofs.ReadLemmas.{fails_weaker, reads_weaker}
use Rattle.pb_base.specs.declared.problem.Problem.{Problem}
use Rattle.pb_base.specs.declared.file.File.TheVariants.{Cnf}
use Rattle.pb_base.specs.Problems.{originals}
use Rattle.pb_norm.specs.Constraints.{Constraint}
use Rattle.pb_norm.specs.Products.{loaded_of}
use Rattle.pb_desk.specs.Desk.{DeskState}
use Rattle.pb_desk.specs.LineReaders.{Reader}
use Rattle.pb_desk.specs.TwoSlots.{ReadsBoth, TakesBoth}
use Rattle.pb_desk.proofs.BothSlots.{both_begin, both_of_one, both_then, both_weaker, misses_new, takes_both}
use Rattle.pb_dimacs.specs.declared.fault.CnfFault.{CnfFault}
use Rattle.pb_dimacs.specs.declared.fault.CnfFault.TheVariants as cnf_fault
use Rattle.pb_dimacs.specs.declared.head.CnfHead.{CnfHead}
use Rattle.pb_dimacs.specs.CnfReaders.{CnfReader, new_reader, symbols_left, GivesHead, StopsHead}
use Rattle.pb_dimacs.specs.CnfRows.{CnfRow, rows_of}
use Rattle.pb_dimacs.specs.CnfSymbols.{Start, start_of}
use Rattle.pb_dimacs.specs.CnfSymbols.Start.{told, wrong}
use Rattle.pb_dimacs.specs.Cursors.{rows_left}
use Rattle.pb_dimacs.specs.Within.{IsStartWithin, CouldPass}
use Rattle.pb_dimacs.proofs.FormLemmas.{start_rows}
use Rattle.pb_steps.specs.Database.{loaded_database}
use Rattle.pb_check.specs.declared.kept.CollectedClauses.{CollectedClauses}
use Rattle.pb_check.specs.declared.session.Session.{Session}
use Rattle.pb_check.specs.declared.verdict.CheckFault.{CheckFault}
use Rattle.pb_base.specs.declared.expected.Expected.TheVariants.{VarCount}
use Rattle.pb_check.specs.declared.verdict.CheckFault.TheVariants.{Refused, Limit, ReadFault, NoMemory}
use Rattle.pb_check.specs.Faults.{of_cnf}
use Rattle.pb_check.specs.Turns.{Answer}
use Rattle.pb_check.specs.Turns.Stage.{head_wanted}
use Rattle.pb_check.specs.Walk.{Walks, WalksFrom, WalksBy, Walk, task_of}
use Rattle.pb_check.specs.Outcomes.{LeavesOpen, StopsCheck}
use Rattle.pb_check.specs.inner.Phases.{IsOpen, BothAnswered, AreOpen, StopsOne, StopsBoth, clauses_of, IsTask, TaskFrom, LinesAnswer}
use Rattle.pb_check.specs.inner.Calls.{StopsLines}
use Rattle.pb_check.specs.inner.Sessions.{IsNew}
use Rattle.pb_check.proofs.Answering.{some-left, some-start, walk_has_one_answer}
use Rattle.pb_check.proofs.LineRuns.{LinesCome}
use Rattle.pb_check.proofs.WithinAnswers.{PassesCnf, start_within}
use Rattle.pb_check.proofs.BothStops.{open_wider, stops_of_cnf, stops_both_weaker, both_stops}

-- ---- behind the p line

abbrev HeadAnswer : Problem → CnfHead → CnfReader → Reader → List ℕ → List ℕ → Answer → Type 0
HeadAnswer problem head cnf proof c p answer = WalksFrom problem (rows_left proof p) head (symbols_left cnf c) (leb (originals problem) head.vars) answer

lt-leb-false : (m n : ℕ) → m < n → leb n m ≡ false
lt-leb-false m n less = by_test (leb n m) refl
  where
    by_test : (b : Bool) → leb n m ≡ b → b ≡ false
    by_test true is = let le = leb-true n m is in absurd (omega (arith, le, less))
    by_test false is = refl

-- the same in any circumstances
abbrev pub HeadComes : Problem → CnfHead → CnfReader → Reader → Unit {0} → List ℕ → List ℕ → Answer → Type 0
HeadComes p head cnf proof x c d answer = HeadAnswer p head cnf proof c d answer

-- the CNF has too few variables
pub too_few : (f : CheckFault) (p : Problem) (head : CnfHead) (cnf : CnfReader) (proof : Reader) (a : DeskState) → f ≡ Refused Cnf head.place VarCount → cnf.lines.slot ≢ proof.slot → head.vars < originals p
    → StopsBoth (Unit {0}) f cnf.lines proof cnf.lines proof a a (HeadComes p head cnf proof)
too_few f p head cnf proof a is apart less =
    subst (λ (f : CheckFault). StopsBoth (Unit {0}) f cnf.lines proof cnf.lines proof a a (HeadComes p head cnf proof)) (sym is)
    (both_begin cnf.lines proof a (λ c d c' d'. (x : Unit {0}) → HeadComes p head cnf proof x c d (Err (Refused Cnf head.place VarCount))) apart
    (λ c d x. subst (λ (b : Bool). WalksFrom p (rows_left proof d) head (symbols_left cnf c) b (Err (Refused Cnf head.place VarCount))) (sym (lt-leb-false head.vars (originals p) less)) refl))

-- memory was wanting before a line was read
pub none_read : (cnf proof : Reader) (a : DeskState) → cnf.slot ≢ proof.slot → ReadsBoth cnf proof cnf proof a a (λ c d c' d'. Unit {0})
none_read cnf proof a apart = both_begin cnf proof a (λ c d c' d'. Unit {0}) apart (λ c d. tt)

-- the lines are checked over the loaded constraints of the problem
pub record IsLoaded (p : Problem) (head : CnfHead) (cnf : CnfReader) (original : ℕ) (loaded : List Constraint) : Type 0 where
  pub vars : cnf.vars ≡ head.vars
  pub left : cnf.left ≡ head.clauses
  pub enough : originals p ≤ head.vars
  pub original_is : original ≡ originals p
  pub loaded_is : loaded ≡ loaded_of p

-- the task that the lines are checked for is that of the problem
is_task : (p : Problem) (head : CnfHead) (cnf : CnfReader) (original : ℕ) (loaded : List Constraint) → IsLoaded p head cnf original loaded → IsTask (task_of p head) cnf.vars (length loaded) (loaded_database original head.vars loaded)
is_task p head cnf original loaded is = record {
  same_vars = sym is.vars;
  same_count = sym (ap (λ (cs : List Constraint). length cs) is.loaded_is);
  database = ap (λ (n : ℕ). loaded_database n head.vars loaded) is.original_is ∙ ap (loaded_database (originals p) head.vars) is.loaded_is;
}

head_lines : (p : Problem) (head : CnfHead) (cnf : CnfReader) (proof : Reader) (original : ℕ) (loaded : List Constraint) → IsLoaded p head cnf original loaded → (c d : List ℕ) (a : Answer)
    → Walks (task_of p head) head_wanted (clauses_of cnf c) (rows_left proof d) a → HeadAnswer p head cnf proof c d a
head_lines p head cnf proof original loaded is c d a w =
    subst (λ (b : Bool). WalksFrom p (rows_left proof d) head (symbols_left cnf c) b a) (sym (le-leb (originals p) head.vars is.enough))
    (subst (λ (n : ℕ). Walks (task_of p head) head_wanted (record { left = n; symbols = symbols_left cnf c }) (rows_left proof d) a) is.left w)

lines_answer : (p : Problem) (head : CnfHead) (cnf : CnfReader) (proof : Reader) (original : ℕ) (loaded : List Constraint) → IsLoaded p head cnf original loaded → (c d : List ℕ) (a : Answer)
    → LinesAnswer cnf (loaded_database original head.vars loaded) (length loaded) proof c d a → HeadAnswer p head cnf proof c d a
lines_answer p head cnf proof original loaded is c d a w = head_lines p head cnf proof original loaded is c d a (w (task_of p head) (is_task p head cnf original loaded is))

pub lines_given : (p : Problem) (head : CnfHead) (cnf cnf' : CnfReader) (proof proof' : Reader) (original : ℕ) (loaded : List Constraint) (a b : DeskState) (answer : Answer) → IsLoaded p head cnf original loaded
    → ReadsBoth cnf.lines proof cnf'.lines proof' a b (λ c d c' d'. LinesAnswer cnf (loaded_database original head.vars loaded) (length loaded) proof c d answer)
    → ReadsBoth cnf.lines proof cnf'.lines proof' a b (λ c d c' d'. HeadAnswer p head cnf proof c d answer)
lines_given p head cnf cnf' proof proof' original loaded a b answer is reads =
    both_weaker cnf.lines proof cnf'.lines proof' a b (λ c d c' d'. LinesAnswer cnf (loaded_database original head.vars loaded) (length loaded) proof c d answer) (λ c d c' d'. HeadAnswer p head cnf proof c d answer)
    (λ c d c' d' w. lines_answer p head cnf proof original loaded is c d answer w) reads

pub lines_stopped : (f : CheckFault) (p : Problem) (head : CnfHead) (cnf cnf' : CnfReader) (proof proof' : Reader) (original : ℕ) (loaded : List Constraint) (a b : DeskState) → IsLoaded p head cnf original loaded
    → StopsBoth (TaskFrom cnf (loaded_database original head.vars loaded) (length loaded)) f cnf.lines proof cnf'.lines proof' a b (LinesCome cnf (loaded_database original head.vars loaded) (length loaded) proof)
    → StopsBoth (Unit {0}) f cnf.lines proof cnf'.lines proof' a b (HeadComes p head cnf proof)
lines_stopped f p head cnf cnf' proof proof' original loaded a b is stops =
    stops_both_weaker (TaskFrom cnf (loaded_database original head.vars loaded) (length loaded)) (Unit {0}) f cnf.lines proof cnf'.lines proof' a b (LinesCome cnf (loaded_database original head.vars loaded) (length loaded) proof) (HeadComes p head cnf proof)
    (λ x. ((task_of p head, is_task p head cnf original loaded is), λ c d answer w. head_lines p head cnf proof original loaded is c d answer w)) stops

-- ---- from the first byte of both texts on

abbrev WholeAnswer : Problem → CnfReader → Reader → List ℕ → List ℕ → Answer → Type 0
WholeAnswer p cnf proof c d answer = WalksBy p (rows_left proof d) (start_of (rows_left cnf.lines c)) answer

-- the readers are new ones of these slots
pub record AreNew (x y : ℕ) (cnf : CnfReader) (proof : Reader) : Type 0 where
  pub cnf_new : cnf ≡ new_reader x
  pub proof_new : proof ≡ (new_reader y).lines

pub apart_new : (x y : ℕ) (cnf : CnfReader) (proof : Reader) → AreNew x y cnf proof → x ≢ y → cnf.lines.slot ≢ proof.slot
apart_new x y cnf proof new apart e = apart (sym (ap (λ (r : CnfReader). r.lines.slot) new.cnf_new) ∙ e ∙ ap (λ (r : Reader). r.slot) new.proof_new)

walk_answer : (p : Problem) (x y : ℕ) (cnf : CnfReader) (proof : Reader) → AreNew x y cnf proof → (c d : List ℕ) (answer : Answer) → WholeAnswer p cnf proof c d answer → Walk p c d answer
walk_answer p x y cnf proof new c d answer w =
    subst (λ (rows : List CnfRow). WalksBy p rows (start_of (rows_of c)) answer) (ap (λ (r : Reader). rows_left r d) new.proof_new ∙ start_rows y d)
    (subst (λ (rows : List CnfRow). WalksBy p (rows_left proof d) (start_of rows) answer) (ap (λ (r : CnfReader). rows_left r.lines c) new.cnf_new ∙ start_rows x c) w)

pub takes_new : (p : Problem) (x y : ℕ) (cnf cnf' : CnfReader) (proof proof' : Reader) (a b : DeskState) (P : List ℕ → List ℕ → List ℕ → List ℕ → Type 0) (Q : List ℕ → List ℕ → Type 0) → AreNew x y cnf proof
    → ((c d c' d' : List ℕ) → P c d c' d' → Q c d) → ReadsBoth cnf.lines proof cnf'.lines proof' a b P → TakesBoth x y Q a b
takes_new p x y cnf cnf' proof proof' a b P Q new gives reads =
    takes_both cnf.lines proof cnf'.lines proof' x y a b P Q (ap (λ (r : CnfReader). r.lines.slot) new.cnf_new) (ap (λ (r : Reader). r.slot) new.proof_new)
    (ap (λ (r : CnfReader). r.lines.ahead) new.cnf_new) (ap (λ (r : Reader). r.ahead) new.proof_new) gives reads

takes_walk : (p : Problem) (x y : ℕ) (cnf cnf' : CnfReader) (proof proof' : Reader) (a b : DeskState) (answer : Answer) → AreNew x y cnf proof
    → ReadsBoth cnf.lines proof cnf'.lines proof' a b (λ c d c' d'. WholeAnswer p cnf proof c d answer) → TakesBoth x y (λ c d. Walk p c d answer) a b
takes_walk p x y cnf cnf' proof proof' a b answer new reads =
    takes_new p x y cnf cnf' proof proof' a b (λ c d c' d'. WholeAnswer p cnf proof c d answer) (λ c d. Walk p c d answer) new
    (λ c d c' d' w. walk_answer p x y cnf proof new c d answer w) reads

abbrev WholeComes : Problem → CnfReader → Reader → Unit {0} → List ℕ → List ℕ → Answer → Type 0
WholeComes p cnf proof x c d answer = WholeAnswer p cnf proof c d answer

-- no answer is that of all texts, where two of them come to different ones
leaves_open : (p : Problem) (x y : ℕ) (cnf : CnfReader) (proof : Reader) → AreNew x y cnf proof → (c d : List ℕ) → AreOpen (λ c' d'. (behind : List ℕ) × (other : List ℕ) × (c' ≡ c ++ behind) × (d' ≡ d ++ other)) (WholeAnswer p cnf proof) → LeavesOpen p c d
leaves_open p x y cnf proof new c d is answer settled = is.apart (sym (only is.one) ∙ only is.two)
  where
    only : (t : BothAnswered (λ c' d'. (behind : List ℕ) × (other : List ℕ) × (c' ≡ c ++ behind) × (d' ≡ d ++ other)) (WholeAnswer p cnf proof)) → answer ≡ t.answer
    only t =
        walk_has_one_answer.only p t.cnf t.proof answer t.answer
        (subst (λ (xs : List ℕ). Walk p xs t.proof answer) (sym t.may.2) (subst (λ (ys : List ℕ). Walk p (c ++ t.may.0) ys answer) (sym t.may.3) (settled t.may.0 t.may.1)))
        (walk_answer p x y cnf proof new t.cnf t.proof t.answer t.comes)

stops_walk : (f : CheckFault) (p : Problem) (x y : ℕ) (cnf cnf' : CnfReader) (proof proof' : Reader) (a b : DeskState) → AreNew x y cnf proof
    → StopsBoth (Unit {0}) f cnf.lines proof cnf'.lines proof' a b (WholeComes p cnf proof) → StopsCheck p x y a b f
stops_walk ReadFault p x y cnf cnf' proof proof' a b new stops =
    misses_new cnf.lines proof x y a b (λ May. (z : Unit {0}) → AreOpen May (WholeComes p cnf proof z)) (LeavesOpen p) (ap (λ (r : CnfReader). r.lines.slot) new.cnf_new) (ap (λ (r : Reader). r.slot) new.proof_new)
    (ap (λ (r : CnfReader). r.lines.ahead) new.cnf_new) (ap (λ (r : Reader). r.ahead) new.proof_new)
    (λ c d is. leaves_open p x y cnf proof new c d (is tt)) (λ May May' h is z. open_wider May May' (WholeComes p cnf proof z) h (is z)) stops
stops_walk NoMemory p x y cnf cnf' proof proof' a b new stops =
    takes_new p x y cnf cnf' proof proof' a b (λ c d c' d'. Unit {0}) (λ c d. Unit {0}) new (λ c d c' d' t. tt) stops
stops_walk (Refused file place e) p x y cnf cnf' proof proof' a b new stops =
    takes_new p x y cnf cnf' proof proof' a b (λ c d c' d'. (z : Unit {0}) → WholeComes p cnf proof z c d (Err (Refused file place e))) (λ c d. Walk p c d (Err (Refused file place e))) new
    (λ c d c' d' w. walk_answer p x y cnf proof new c d (Err (Refused file place e)) (w tt)) stops
stops_walk (Limit file place which) p x y cnf cnf' proof proof' a b new stops =
    takes_new p x y cnf cnf' proof proof' a b (λ c d c' d'. (z : Unit {0}) → WholeComes p cnf proof z c d (Err (Limit file place which))) (λ c d. Walk p c d (Err (Limit file place which))) new
    (λ c d c' d' w. walk_answer p x y cnf proof new c d (Err (Limit file place which)) (w tt)) stops

-- the p line was read
abbrev pub Started : CnfHead → CnfReader → CnfReader → List ℕ → List ℕ → List ℕ → List ℕ → Type 0
Started head cnf cnf' c d c' d' = (start_of (rows_left cnf.lines c) ≡ told head (symbols_left cnf' c')) × (d' ≡ d)

pub started_with : (head : CnfHead) (cnf cnf' : CnfReader) (proof : Reader) (a b : DeskState) → cnf.lines.slot ≢ proof.slot → cnf'.lines.slot ≡ cnf.lines.slot → GivesHead head cnf cnf' a b
    → ReadsBoth cnf.lines proof cnf'.lines proof a b (Started head cnf cnf')
started_with head cnf cnf' proof a b apart slot given =
    both_of_one cnf.lines cnf'.lines proof a b (λ text rest. start_of (rows_left cnf.lines text) ≡ told head (symbols_left cnf' rest)) (Started head cnf cnf') apart slot (λ c d c' h. (h, refl)) given

head_answer : (p : Problem) (head : CnfHead) (cnf cnf' : CnfReader) (proof : Reader) (answer : Answer) (c d c' d' : List ℕ) → Started head cnf cnf' c d c' d' → HeadAnswer p head cnf' proof c' d' answer → WholeAnswer p cnf proof c d answer
head_answer p head cnf cnf' proof answer c d c' d' start w =
    subst (λ (s : Start). WalksBy p (rows_left proof d) s answer) (sym start.0)
    (subst (λ (text : List ℕ). HeadAnswer p head cnf' proof c' text answer) start.1 w)

pub walk_given : (p : Problem) (head : CnfHead) (x y : ℕ) (cnf cnf' cnf'' : CnfReader) (proof proof' : Reader) (a b d : DeskState) (answer : Answer) → AreNew x y cnf proof → cnf.lines.slot ≢ proof.slot → cnf'.lines.slot ≡ cnf.lines.slot
    → GivesHead head cnf cnf' a b → ReadsBoth cnf'.lines proof cnf''.lines proof' b d (λ t u t' u'. HeadAnswer p head cnf' proof t u answer) → TakesBoth x y (λ c d. Walk p c d answer) a d
walk_given p head x y cnf cnf' cnf'' proof proof' a b d answer new apart slot given reads =
    takes_walk p x y cnf cnf'' proof proof' a d answer new
    (both_then cnf.lines proof cnf'.lines proof cnf''.lines proof' a b d (Started head cnf cnf') (λ t u t' u'. HeadAnswer p head cnf' proof t u answer) (λ t u t' u'. WholeAnswer p cnf proof t u answer)
    (λ t u t' u' t'' u'' start w. head_answer p head cnf cnf' proof answer t u t' u' start w) (started_with head cnf cnf' proof a b apart slot given) reads)

pub walk_stopped : (f : CheckFault) (p : Problem) (head : CnfHead) (x y : ℕ) (cnf cnf' cnf'' : CnfReader) (proof proof' : Reader) (a b d : DeskState) → AreNew x y cnf proof → cnf.lines.slot ≢ proof.slot → cnf'.lines.slot ≡ cnf.lines.slot
    → GivesHead head cnf cnf' a b → StopsBoth (Unit {0}) f cnf'.lines proof cnf''.lines proof' b d (HeadComes p head cnf' proof) → StopsCheck p x y a d f
walk_stopped f p head x y cnf cnf' cnf'' proof proof' a b d new apart slot given stops =
    stops_walk f p x y cnf cnf'' proof proof' a d new
    (both_stops (Unit {0}) (Unit {0}) f cnf.lines proof cnf'.lines proof cnf''.lines proof' a b d (Started head cnf cnf') (HeadComes p head cnf' proof) (WholeComes p cnf proof)
    (λ z. (z, λ t u t' u' answer start w. head_answer p head cnf cnf' proof answer t u t' u' start w)) (started_with head cnf cnf' proof a b apart slot given) stops)

-- the p line was not read
wrong_start : (p : Problem) (rows : List CnfRow) (s : Start) (f : CnfFault) → s ≡ wrong f → WalksBy p rows s (Err (of_cnf f))
wrong_start p rows s f is = subst (λ (s : Start). WalksBy p rows s (Err (of_cnf f))) (sym is) refl

-- the answer for what is left of the CNF, beside what a reader has left of the derivation
abbrev StartComes : Problem → CnfReader → (Reader × List ℕ) → List ℕ → Answer → Type 0
StartComes p cnf x text answer = WalksBy p (rows_left x.0 x.1) (start_of (rows_left cnf.lines text)) answer

-- the CNF may end there, or a line go on until it passes a limit
start_open : (p : Problem) (cnf : CnfReader) (bytes : List ℕ) → IsStartWithin (start_of (rows_left cnf.lines bytes)) → CouldPass (λ text f. start_of (rows_left cnf.lines text) ≡ wrong f) bytes → (x : Reader × List ℕ) → IsOpen (StartComes p cnf x) bytes
start_open p cnf bytes within could x =
    let rows = rows_left x.0 x.1 in
    let here = some-start p rows (λ task. some-left task x.0 x.1) (start_of (rows_left cnf.lines (bytes ++ []))) in
    let fault : CnfFault = cnf_fault.Limit could.place could.which in
    record {
      one = record { behind = []; answer = here.0; comes = here.1 };
      two = record { behind = could.behind; answer = Err (of_cnf fault); comes = wrong_start p rows (start_of (rows_left cnf.lines (bytes ++ could.behind))) fault could.tells };
      apart = λ e. start_within p rows (start_of (rows_left cnf.lines (bytes ++ []))) here.0 (subst (λ (xs : List ℕ). IsStartWithin (start_of (rows_left cnf.lines xs))) (sym (append-nil bytes)) within) here.1 (subst PassesCnf (sym e) could.by_length);
    }

head_missed : (fault : CnfFault) (p : Problem) (cnf cnf' : CnfReader) (a b : DeskState) → StopsHead fault cnf cnf' a b
    → StopsOne (Reader × List ℕ) (of_cnf fault) cnf.lines cnf'.lines a b (StartComes p cnf)
head_missed cnf_fault.Failed p cnf cnf' a b stops =
    fails_weaker cnf.lines.slot cnf.lines.ahead a b (λ bytes. IsStartWithin (start_of (rows_left cnf.lines bytes)) × CouldPass (λ text f. start_of (rows_left cnf.lines text) ≡ wrong f) bytes) (λ bytes. (x : Reader × List ℕ) → IsOpen (StartComes p cnf x) bytes)
    (λ bytes h x. start_open p cnf bytes h.0 h.1 x) stops
head_missed cnf_fault.NoMemory p cnf cnf' a b stops = stops
head_missed (cnf_fault.Token place e) p cnf cnf' a b stops =
    reads_weaker cnf.lines.slot cnf.lines.ahead cnf'.lines.ahead a b (λ text rest. start_of (rows_left cnf.lines text) ≡ wrong (cnf_fault.Token place e)) (λ text rest. (x : Reader × List ℕ) → StartComes p cnf x text (Err (Refused Cnf place e)))
    (λ text rest is x. wrong_start p (rows_left x.0 x.1) (start_of (rows_left cnf.lines text)) (cnf_fault.Token place e) is) stops
head_missed (cnf_fault.Limit place which) p cnf cnf' a b stops =
    reads_weaker cnf.lines.slot cnf.lines.ahead cnf'.lines.ahead a b (λ text rest. start_of (rows_left cnf.lines text) ≡ wrong (cnf_fault.Limit place which)) (λ text rest. (x : Reader × List ℕ) → StartComes p cnf x text (Err (Limit Cnf place which)))
    (λ text rest is x. wrong_start p (rows_left x.0 x.1) (start_of (rows_left cnf.lines text)) (cnf_fault.Limit place which) is) stops

pub walk_unstarted : (fault : CnfFault) (p : Problem) (x y : ℕ) (cnf cnf' : CnfReader) (proof : Reader) (a b : DeskState) → AreNew x y cnf proof → cnf.lines.slot ≢ proof.slot → cnf'.lines.slot ≡ cnf.lines.slot
    → StopsHead fault cnf cnf' a b → StopsCheck p x y a b (of_cnf fault)
walk_unstarted fault p x y cnf cnf' proof a b new apart slot stops =
    stops_walk (of_cnf fault) p x y cnf cnf' proof proof a b new
    (stops_of_cnf (Reader × List ℕ) (Unit {0}) (of_cnf fault) cnf.lines cnf'.lines proof a b (StartComes p cnf) (WholeComes p cnf proof) apart slot
    (λ z d. ((proof, d), λ c answer w. w)) (head_missed fault p cnf cnf' a b stops))

-- ---- in a session

pub are_new : (x y : ℕ) (k : CollectedClauses) (s : Session) → IsNew x y k s → AreNew x y s.outputs.cnf s.derivation.lines
are_new x y k s new = record { cnf_new = new.cnf_new; proof_new = new.lines_new }

-- the p line was read, and then lines that give an answer, or stop
pub whole_given : (p : Problem) (head : CnfHead) (x y : ℕ) (k : CollectedClauses) (s s' : Session) (cnf : CnfReader) (original : ℕ) (loaded : List Constraint) (a b d : DeskState) (answer : Answer) → IsNew x y k s → cnf.lines.slot ≡ s.outputs.cnf.lines.slot
    → GivesHead head s.outputs.cnf cnf a b → IsLoaded p head cnf original loaded
    → ReadsBoth cnf.lines s.derivation.lines s'.outputs.cnf.lines s'.derivation.lines b d (λ t u t' u'. LinesAnswer cnf (loaded_database original head.vars loaded) (length loaded) s.derivation.lines t u answer)
    → TakesBoth x y (λ t u. Walk p t u answer) a d
whole_given p head x y k s s' cnf original loaded a b d answer new slot given is reads =
    walk_given p head x y s.outputs.cnf cnf s'.outputs.cnf s.derivation.lines s'.derivation.lines a b d answer (are_new x y k s new) s.apart slot given
    (lines_given p head cnf s'.outputs.cnf s.derivation.lines s'.derivation.lines original loaded b d answer is reads)

pub whole_stopped : (f : CheckFault) (p : Problem) (head : CnfHead) (x y : ℕ) (k : CollectedClauses) (s : Session) (cnf cnf' : CnfReader) (proof' : Reader) (original : ℕ) (loaded : List Constraint) (a b d : DeskState) → IsNew x y k s → cnf.lines.slot ≡ s.outputs.cnf.lines.slot
    → GivesHead head s.outputs.cnf cnf a b → IsLoaded p head cnf original loaded → StopsLines f (length loaded) cnf (loaded_database original head.vars loaded) s.derivation.lines cnf' proof' b d → StopsCheck p x y a d f
whole_stopped f p head x y k s cnf cnf' proof' original loaded a b d new slot given is stops =
    walk_stopped f p head x y s.outputs.cnf cnf cnf' s.derivation.lines proof' a b d (are_new x y k s new) s.apart slot given (lines_stopped f p head cnf cnf' s.derivation.lines proof' original loaded b d is stops)
