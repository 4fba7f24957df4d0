-- The next line that says something, over lines that come as they are needed.
use Rattle.std.proofs.Common.{◌≡◌, ◌+◌, ℕ, Bool, true, false, List, [], ◌∷◌, ◌++◌, Option, Some, None, Ok, Err, refl, sym, ap, ◌∙◌, subst}
use Rattle.std.specs.Prelude.{◌≢◌}
use Rattle.pb_base.specs.declared.place.Place.{Place}
use Rattle.pb_base.specs.declared.expected.Expected.{Expected}
use Rattle.pb_base.specs.declared.file.File.TheVariants.{Proof}
use Rattle.pb_base.specs.declared.limit.LimitKind.{LimitKind}
use Rattle.pb_desk.specs.Desk.{DeskState}
use Rattle.pb_desk.specs.LineReading.{TakesAhead, FailsAhead, IsPart}
use Rattle.pb_desk.specs.LineReaders.{GivesLine, Reader, left_for}
use Rattle.std.proofs.lemmas.List.{append-nil}
use Rattle.pb_desk.proofs.ReadLemmas.{fails_then, fails_weaker, reads_weaker}
use Rattle.pb_desk.specs.declared.lines.LineFault.{LineFault}
use Rattle.pb_desk.specs.declared.lines.LineFault.TheVariants as line_fault
use Rattle.pb_dimacs.specs.CnfRows.{CnfRow, line_start, limit_place, fault_of_line}
use Rattle.pb_dimacs.specs.CnfRows.CnfRow.{plain, too_long, last}
use Rattle.pb_dimacs.specs.Cursors.{rows_left, GivesRow, StopsRow}
use Rattle.pb_dimacs.proofs.CursorLemmas.{reads_on}
use Rattle.pb_dimacs.proofs.RowLemmas.{row_given}
use Rattle.pb_dimacs.specs.Within.{AreRowsWithin}
use Rattle.pb_dimacs.proofs.WithinLemmas.{part_within, passes_row}
use Rattle.pb_steps.specs.declared.fault.StepFault.{StepFault}
use Rattle.pb_steps.specs.declared.fault.StepFault.TheVariants as step_fault
use Rattle.pb_steps.specs.declared.step.Step.{Step}
use Rattle.pb_steps.specs.LineSteps.{step_of}
use Rattle.pb_check.specs.declared.verdict.CheckFault.{CheckFault}
use Rattle.pb_check.specs.declared.verdict.CheckFault.TheVariants.{Refused, Limit, ReadFault, NoMemory}
use Rattle.pb_check.specs.Turns.{Answer, Task, Stage, Clauses}
use Rattle.pb_check.specs.Walk.{Walks}
use Rattle.pb_check.specs.Faults.{of_step, of_line}
use Rattle.pb_check.specs.inner.Calls.{ReadsStep}
use Rattle.pb_check.specs.inner.Phases.{says_nothing, behind_blank, NextSays, IsOpen, StopsOne}
use Rattle.pb_check.proofs.Answering.{some-left}
use Rattle.pb_check.proofs.BothStops.{open_weaker}
use Rattle.pb_check.proofs.WithinAnswers.{PassesProof, proof_within}
use Rattle.pb_check.proofs.TurnLemmas.{walks_behind, behind_walks, behind_unsaid, behind_said, behind_fault, fault_walks}

-- what stops a reader is said in other words
pub stops_weaker : (X Y : Type 0) (fault : CheckFault) (old new : Reader) (a b : DeskState) (T : X → List ℕ → Answer → Type 0) (U : Y → List ℕ → Answer → Type 0)
    → ((y : Y) → (x : X) × ((text : List ℕ) (answer : Answer) → T x text answer → U y text answer)) → StopsOne X fault old new a b T → StopsOne Y fault old new a b U
stops_weaker X Y ReadFault old new a b T U h stops =
    fails_weaker old.slot old.ahead a b (λ bytes. (x : X) → IsOpen (T x) bytes) (λ bytes. (y : Y) → IsOpen (U y) bytes)
    (λ bytes is y. let by = h y in open_weaker (T by.0) (U y) bytes bytes (λ behind answer t. by.1 (bytes ++ behind) answer t) (is by.0)) stops
stops_weaker X Y NoMemory old new a b T U h stops = stops
stops_weaker X Y (Refused file place e) old new a b T U h stops =
    reads_weaker old.slot old.ahead new.ahead a b (λ text rest. (x : X) → T x text (Err (Refused file place e))) (λ text rest. (y : Y) → U y text (Err (Refused file place e)))
    (λ text rest t y. let by = h y in by.1 text (Err (Refused file place e)) (t by.0)) stops
stops_weaker X Y (Limit file place which) old new a b T U h stops =
    reads_weaker old.slot old.ahead new.ahead a b (λ text rest. (x : X) → T x text (Err (Limit file place which))) (λ text rest. (y : Y) → U y text (Err (Limit file place which)))
    (λ text rest t y. let by = h y in by.1 text (Err (Limit file place which)) (t by.0)) stops

abbrev pub SaysSame : Reader → Reader → List ℕ → List ℕ → Type 0
SaysSame old new text rest = behind_blank (rows_left old text) ≡ behind_blank (rows_left new rest)

-- where a line stands, whatever was read
abbrev pub Anywhere : Type 0
Anywhere = Task × Stage × Clauses

-- the answer from what is left on
abbrev pub LineComes : Reader → Anywhere → List ℕ → Answer → Type 0
LineComes old x text answer = Walks x.0 x.1 x.2 (rows_left old text) answer

-- a part of a line leaves the answer open: the text may end there, or the line may go on until it passes a limit
line_open : (old mid : Reader) (bytes part : List ℕ) → ((behind : List ℕ) → SaysSame old mid (bytes ++ behind) (part ++ behind)) → IsPart (left_for mid) part → (x : Anywhere) → IsOpen (LineComes old x) bytes
line_open old mid bytes part same is x =
    let here = some-left x.0 mid (part ++ []) x.1 x.2 in
    let more = passes_row mid part is in
    let fault : Answer = Err (Limit Proof (limit_place more.which (line_start (mid.number + 1))) more.which) in
    record {
      one = record { behind = []; answer = here.0; comes = carried [] here.0 here.1 };
      two = record { behind = more.behind; answer = fault; comes = carried more.behind fault (subst (λ (rs : List CnfRow). Walks x.0 x.1 x.2 rs fault) (sym more.rows) refl) };
      apart = λ e. proof_within x.0 (rows_left mid (part ++ [])) (subst (λ (xs : List ℕ). AreRowsWithin (rows_left mid xs)) (sym (append-nil part)) (part_within mid part is)) x.1 x.2 here.0 here.1 (subst PassesProof (sym e) more.by_length);
    }
  where
    carried : (behind : List ℕ) (answer : Answer) → Walks x.0 x.1 x.2 (rows_left mid (part ++ behind)) answer → LineComes old x (bytes ++ behind) answer
    carried behind answer w =
        walks_behind x.0 x.1 x.2 (rows_left old (bytes ++ behind)) answer
        (subst (λ (rs : List CnfRow). Walks x.0 x.1 x.2 rs answer) (sym (same behind)) (behind_walks x.0 x.1 x.2 (rows_left mid (part ++ behind)) answer w))

-- a line that was not read
row_stops : (fault : LineFault) (old mid new : Reader) (a b c : DeskState) → mid.slot ≡ old.slot → TakesAhead old.slot old.ahead mid.ahead a b (SaysSame old mid) → StopsRow (fault_of_line fault) mid new b c
    → StopsOne Anywhere (of_line fault) old new a c (LineComes old)
row_stops line_fault.Failed old mid new a b c slot first stops =
    fails_then old.slot old.ahead mid.ahead a b c (SaysSame old mid) (IsPart (left_for mid)) (λ bytes. (x : Anywhere) → IsOpen (LineComes old x) bytes)
    (λ bytes part p q x. line_open old mid bytes part p q x) first (subst (λ (s : ℕ). FailsAhead s mid.ahead b c (IsPart (left_for mid))) slot stops)
row_stops line_fault.NoMemory old mid new a b c slot first stops =
    reads_on old mid new a b c (SaysSame old mid) (λ text rest. Unit {0}) (λ text rest. Unit {0}) slot (λ text middle rest p q. tt) first stops
row_stops (line_fault.Limit which number) old mid new a b c slot first stops =
    reads_on old mid new a b c (SaysSame old mid) (λ text rest. rows_left mid text ≡ too_long (mid.number + 1) which ∷ []) (λ text rest. (x : Anywhere) → LineComes old x text (Err (Limit Proof (limit_place which (line_start number)) which))) slot
    (λ text middle rest p q x.
    let task : Task = x.0 in
    let stage : Stage = x.1 in
    let clauses : Clauses = x.2 in
    let answer : Answer = Err (Limit Proof (limit_place which (line_start number)) which) in
    walks_behind task stage clauses (rows_left old text) answer (subst (λ (rs : List CnfRow). Walks task stage clauses rs answer) (sym (p ∙ ap behind_blank q))
    (ap (λ (o : Option Place). Err (Limit Proof o which)) stops.0)))
    first stops.1

pub row_unread : (f : CheckFault) (fault : LineFault) (old mid new : Reader) (a b c : DeskState) → f ≡ of_line fault → mid.slot ≡ old.slot → TakesAhead old.slot old.ahead mid.ahead a b (SaysSame old mid) → StopsRow (fault_of_line fault) mid new b c → StopsOne Anywhere f old new a c (LineComes old)
row_unread f fault old mid new a b c is slot first stops = subst (λ (f : CheckFault). StopsOne Anywhere f old new a c (LineComes old)) (sym is) (row_stops fault old mid new a b c slot first stops)

-- whether there is a row is known by another name
pub row_is : (m n : Bool) (old new : Reader) (a b : DeskState) → m ≡ n → GivesLine m old new a b → GivesRow n old new a b
row_is m n old new a b is given = subst (λ (v : Bool). GivesRow v old new a b) is (row_given m old new a b given)

-- a line that says nothing
pub row_unsaid : (old mid new : Reader) (a b c : DeskState) (line : List ℕ) (s : Step) → mid.slot ≡ old.slot → line ≡ new.line → step_of line ≡ Ok s → says_nothing s ≡ true → TakesAhead old.slot old.ahead mid.ahead a b (SaysSame old mid) → GivesRow true mid new b c
    → TakesAhead old.slot old.ahead new.ahead a c (SaysSame old new)
row_unsaid old mid new a b c line s slot is says blank first more =
    reads_on old mid new a b c (SaysSame old mid) (λ text rest. rows_left mid text ≡ plain new.number new.line ∷ rows_left new rest) (SaysSame old new) slot
    (λ text middle rest p q. p ∙ ap behind_blank q ∙ behind_unsaid new.number new.line (rows_left new rest) s (ap step_of (sym is) ∙ says) blank) first more

-- a line that says a step
pub row_said : (old mid new : Reader) (a b c : DeskState) (line : List ℕ) (s : Step) → mid.slot ≡ old.slot → line ≡ new.line → step_of line ≡ Ok s → says_nothing s ≡ false → TakesAhead old.slot old.ahead mid.ahead a b (SaysSame old mid) → GivesRow true mid new b c
    → TakesAhead old.slot old.ahead new.ahead a c (λ text rest. NextSays (Some s) new (rows_left old text) (rows_left new rest))
row_said old mid new a b c line s slot is says some first more =
    reads_on old mid new a b c (SaysSame old mid) (λ text rest. rows_left mid text ≡ plain new.number new.line ∷ rows_left new rest) (λ text rest. NextSays (Some s) new (rows_left old text) (rows_left new rest)) slot
    (λ text middle rest p q. (ap step_of (sym is) ∙ says, p ∙ ap behind_blank q ∙ behind_said new.number new.line (rows_left new rest) s (ap step_of (sym is) ∙ says) some)) first more

-- the step that was read, by another name
pub next_is : {o p : Option Step} (old new : Reader) (a b : DeskState) → o ≡ p → ReadsStep o old new a b → ReadsStep p old new a b
next_is old new a b is reads = subst (λ (o : Option Step). ReadsStep o old new a b) is reads

-- the end of the text
pub row_last : (old mid new : Reader) (a b c : DeskState) → mid.slot ≡ old.slot → TakesAhead old.slot old.ahead mid.ahead a b (SaysSame old mid) → GivesRow false mid new b c
    → TakesAhead old.slot old.ahead new.ahead a c (λ text rest. NextSays None new (rows_left old text) (rows_left new rest))
row_last old mid new a b c slot first more =
    reads_on old mid new a b c (SaysSame old mid) (λ text rest. (rows_left mid text ≡ last (new.number + 1) ∷ []) × (rows_left new rest ≡ last (new.number + 1) ∷ [])) (λ text rest. NextSays None new (rows_left old text) (rows_left new rest)) slot
    (λ text middle rest p q. p ∙ ap behind_blank q.0) first more

-- a line with a fault
pub row_faulty : (fault : CheckFault) (f : StepFault) (old mid new : Reader) (a b c : DeskState) (line : List ℕ) (number : ℕ) → fault ≡ of_step number f → mid.slot ≡ old.slot → line ≡ new.line → number ≡ new.number → (f ≢ step_fault.NoMemory → step_of line ≡ Err f)
    → TakesAhead old.slot old.ahead mid.ahead a b (SaysSame old mid) → GivesRow true mid new b c → StopsOne Anywhere fault old new a c (LineComes old)
row_faulty fault f old mid new a b c line number faulty slot is at says first more = subst (λ (e : CheckFault). StopsOne Anywhere e old new a c (LineComes old)) (sym faulty) (by_fault f says)
  where
    after : (f : StepFault) → step_of line ≡ Err f → TakesAhead old.slot old.ahead new.ahead a c (λ text rest. (x : Anywhere) → LineComes old x text (Err (of_step number f)))
    after f e =
        let here : step_of new.line ≡ Err f = ap step_of (sym is) ∙ e in
        reads_on old mid new a b c (SaysSame old mid) (λ text rest. rows_left mid text ≡ plain new.number new.line ∷ rows_left new rest) (λ text rest. (x : Anywhere) → LineComes old x text (Err (of_step number f))) slot
        (λ text middle rest p q x. subst (λ (n : ℕ). LineComes old x text (Err (of_step n f))) (sym at)
        (fault_walks (rows_left old text) (rows_left new rest) new.number new.line f here (p ∙ ap behind_blank q ∙ behind_fault new.number new.line (rows_left new rest) f here) x.0 x.1 x.2)) first more

    by_fault : (f : StepFault) → (f ≢ step_fault.NoMemory → step_of line ≡ Err f) → StopsOne Anywhere (of_step number f) old new a c (LineComes old)
    by_fault (step_fault.Token column e) says = after (step_fault.Token column e) (says (λ same. absurd (token_some column e same)))
      where
        token_some : (column : ℕ) (e : Expected) → step_fault.Token column e ≡ step_fault.NoMemory → ⊥
        token_some column e same = cc
    by_fault (step_fault.Limit column which) says = after (step_fault.Limit column which) (says (λ same. absurd (limit_some column which same)))
      where
        limit_some : (column : ℕ) (which : LimitKind) → step_fault.Limit column which ≡ step_fault.NoMemory → ⊥
        limit_some column which same = cc
    by_fault step_fault.NoMemory says =
        reads_on old mid new a b c (SaysSame old mid) (λ text rest. rows_left mid text ≡ plain new.number new.line ∷ rows_left new rest) (λ text rest. Unit {0}) slot (λ text middle rest p q. tt) first more
