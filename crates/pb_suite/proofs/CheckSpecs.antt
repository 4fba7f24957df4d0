-- How going through a CNF and a derivation side by side ends a command that is to do so.
use Rattle.std.proofs.Common.{◌≡◌, ◌≢◌, List, [], ◌∷◌, ℕ, Option, Some, None, Ok, Err, codes, inl, inr, refl, sym, subst, ◌≤◌, ◌<◌, length, arith, ◌∙◌, ap, drop, false, take}
use Rattle.std.specs.Prelude.{◌⊎◌, Contains, IfSome, IsNone, IsSome, IsTrue}
use Rattle.std.specs.Option.{unwrap_or}
use Rattle.pb_base.specs.declared.expected.Expected.TheVariants.{PLine}
use Rattle.pb_base.specs.declared.file.File.{File}
use Rattle.pb_base.specs.declared.file.File.TheVariants.{Opb, Cnf, Proof}
use Rattle.pb_base.specs.declared.problem.Problem.{Problem}
use Rattle.pb_base.proofs.Members.{Contains-here, Contains-there}
use Rattle.pb_desk.specs.View.{Told, View, opened, put}
use Rattle.pb_desk.specs.Desk.{DeskState, IfTold, IsClosed, IsSteady, IsTold, same}
use Rattle.pb_steps.specs.declared.denied.Denied.{Denied}
use Rattle.pb_check.specs.declared.verdict.CheckFault.{CheckFault}
use Rattle.pb_check.specs.declared.verdict.CheckFault.TheVariants as fault
use Rattle.pb_check.specs.declared.verdict.Verdict.TheVariants.{Accepted, Rejected}
use Rattle.pb_check.specs.Outcomes.{LeavesOpen, NamesText, StopsCheck as StopsChecking}
use Rattle.pb_check.specs.Turns.{Answer}
use Rattle.pb_desk.specs.TwoSlots.{both_taken, FailsBoth, TakesBoth}
use Rattle.pb_check.specs.Walk.{Walk}
use Rattle.pb_words.specs.CheckWords.{CheckWords}
use Rattle.pb_suite.specs.declared.outcome.Outcome.{Outcome}
use Rattle.pb_suite.specs.declared.outcome.Outcome.TheVariants as outcome
use Rattle.pb_suite.specs.Implementing.{Implements}
use Rattle.pb_suite.specs.Outputs.{nothing, only_words}
use Rattle.pb_suite.specs.CommandSpec.{HasKind, CommandSpec, Ended, IsUnended, Shelf, Text, taken_in}
use Rattle.pb_suite.specs.CheckSpec.{check_spec, IsJudged, IsUnjudged, StopsCheck}
use Rattle.pb_suite.specs.CheckSpec.StopsCheck.{unread, token, limit, denial, lacking}
use Rattle.pb_suite.specs.Denoted.{IsDenoted}
use Rattle.pb_suite.specs.inner.Opening.{opened_both, HasBoth, IsOpened, StopsBefore, StopsOpening}
use Rattle.pb_suite.specs.inner.Opening.StopsBefore.{not_opened, not_read}
use Rattle.pb_suite.specs.inner.Opening.StopsOpening.{no_cnf, no_proof}
use Rattle.pb_suite.specs.inner.Runs.{check_refusal, IsUnendedIn, KeepsReading}
use Rattle.pb_suite.specs.inner.Saying.{EndsSaying}
use Rattle.pb_suite.proofs.Afterwards.{implements_after}
use Rattle.pb_suite.proofs.DenotedProblems.{denoted_by}
use Rattle.pb_suite.proofs.Endings.{always, bare_memory, is_refused, is_unread, IsOpenIn}
use Rattle.pb_suite.proofs.Going.{by_both_opened, by_both_taken, by_opened, by_same, goes_fetched, goes_reading, goes_then, keeps_by, shelf_is_if, shelf_stays, Goes, KeepsShelf}
use Rattle.pb_suite.proofs.Posed.{posed, read_first, unread_ends}
use Rattle.pb_suite.proofs.Says.{saying_implements}
use Rattle.pb_suite.proofs.SeenChecks.{opening_stays}
use Rattle.pb_suite.proofs.Takings.{taken-closed, taken-drop, taken-opened}
use Rattle.pb_suite.proofs.Texts.{both_told, told_more, told_none_of}

-- an empty CNF and an empty line are refused in different places, so that nothing is settled before a byte was taken
abbrev no_p_line : ℕ → Answer
no_p_line line = Err (fault.Refused Cnf (record { line = line; column = 1 }) PLine)

abbrev line_in : Answer → ℕ
line_in (Err (fault.Refused file place e)) = place.line
line_in other = 0

nothing_judged : (p : Problem) → LeavesOpen p [] []
nothing_judged p answer settled =
    let one : answer ≡ no_p_line 1 = settled [] [] in
    let two : answer ≡ no_p_line 2 = settled (10 ∷ []) [] in
    let lines : 1 ≡ 2 = ap line_in (sym one ∙ two) in
    omega (arith, lines)

-- nothing has to be known of the shelf
abbrev pub anything : Shelf → Type 0
anything shelf = Unit {0}

module _ (w : CheckWords) where
  abbrev first_text : Text
  first_text = record { kind = Opb; name = w.opb }

  abbrev pub cnf_text : Text
  cnf_text = record { kind = Cnf; name = w.cnf }

  abbrev pub proof_text : Text
  proof_text = record { kind = Proof; name = w.proof }

  has_cnf_text : Contains (check_spec w).texts cnf_text
  has_cnf_text = Contains-there first_text (cnf_text ∷ proof_text ∷ []) cnf_text (Contains-here cnf_text (proof_text ∷ []))

  has_proof_text : Contains (check_spec w).texts proof_text
  has_proof_text = Contains-there first_text (cnf_text ∷ proof_text ∷ []) proof_text (Contains-there cnf_text (proof_text ∷ []) proof_text (Contains-here proof_text []))

  -- what is specified of a command that checks, where this is known of the shelf: the texts are among those that it reads, and it stops with what stops the check
  pub record Checks (Known : Shelf → Type 0) (o : CommandSpec) : Type 0 where
    pub three : 3 ≤ length o.texts
    pub has_cnf : Contains o.texts cnf_text
    pub has_proof : Contains o.texts proof_text
    pub cnf_kind : HasKind Cnf o.texts
    pub proof_kind : HasKind Proof o.texts
    pub stops : (shelf : Shelf) (answer : Outcome) → Known shelf → StopsCheck shelf w answer → o.stops shelf answer

  pub check_checks : Checks anything (check_spec w)
  check_checks = record { three = omega arith; has_cnf = has_cnf_text; has_proof = has_proof_text; cnf_kind = inr (inl refl); proof_kind = inr (inr (inl refl)); stops = λ shelf answer known stops. stops }

  -- the two texts as a desk tells what was taken of them
  abbrev pub UnjudgedIn : Ended → View → Told → Type 0
  UnjudgedIn ended v t = IsUnjudged t.shelf w (taken_in v t) ended

  -- the problem's text was not read out, and neither of both was opened
  unread_yet : (b : DeskState) → IsUnendedIn 0 w.opb b → b.view.reading 1 ≡ false → b.view.reading 2 ≡ false → IfTold b (UnjudgedIn b.ended b.view)
  unread_yet b more one two = told_more b (λ t. IsUnended 0 w.opb (taken_in b.view t) b.ended) (UnjudgedIn b.ended b.view) (λ t is. inl (is, taken-closed b.view t 1 w.cnf one, taken-closed b.view t 2 w.proof two)) more

  -- there is a problem, and of both texts no byte was taken
  module _ (p : Problem) (b : DeskState) (denoted : IfTold b (λ t. IsDenoted t.shelf w.opb w.bound p)) where
    unbegun : (t : Told) → IsDenoted t.shelf w.opb w.bound p → unwrap_or (taken_in b.view t 1 w.cnf) [] ≡ [] → unwrap_or (taken_in b.view t 2 w.proof) [] ≡ [] → UnjudgedIn b.ended b.view t
    unbegun t has one two =
        inr (p, has, subst (λ (xs : List ℕ). LeavesOpen p xs (unwrap_or (taken_in b.view t 2 w.proof) [])) (sym one) (subst (λ (xs : List ℕ). LeavesOpen p [] xs) (sym two) (nothing_judged p)))

    none_of : (t : Told) (slot : ℕ) (name : List ℕ) → b.view.reading slot ≡ false → unwrap_or (taken_in b.view t slot name) [] ≡ []
    none_of t slot name closed = ap (λ (x : Option (List ℕ)). unwrap_or x []) (taken-closed b.view t slot name closed)

    -- neither was opened
    unbegun_both : b.view.reading 1 ≡ false → b.view.reading 2 ≡ false → IfTold b (UnjudgedIn b.ended b.view)
    unbegun_both one two = told_more b (λ t. IsDenoted t.shelf w.opb w.bound p) (UnjudgedIn b.ended b.view) (λ t has. unbegun t has (none_of t 1 w.cnf one) (none_of t 2 w.proof two)) denoted

    -- the first alone was
    unbegun_second : (a : DeskState) → b.view ≡ opened 1 w.cnf a.view → a.view.reading 2 ≡ false → IfTold b (UnjudgedIn b.ended b.view)
    unbegun_second a is two =
        both_told b (λ t. IsDenoted t.shelf w.opb w.bound p) (λ t. taken_in b.view t 1 w.cnf ≡ Some []) (UnjudgedIn b.ended b.view)
        (λ t has one. unbegun t has (ap (λ (x : Option (List ℕ)). unwrap_or x []) one) (none_of t 2 w.proof (ap (λ (v : View). v.reading 2) is ∙ two))) denoted (taken-opened w.cnf a b is)

  -- what is open for the check is so for a command that checks, where no slot behind was opened and the shelf is the same
  abbrev pub OpenBy : CommandSpec → DeskState → DeskState → Type 1
  OpenBy o a b = KeepsReading 3 a b → KeepsShelf a b → IfTold b (UnjudgedIn b.ended b.view) → IsOpenIn o b

  -- one of both files was not opened
  module _ (Known : Shelf → Type 0) (o : CommandSpec) (checks : Checks Known o) (p : Problem) (a b : DeskState) (denoted : IfTold a (λ t. IsDenoted t.shelf w.opb w.bound p)) (known : IfTold a (λ t. Known t.shelf)) where
    lacks_one : (name : List ℕ) → ((shelf : Shelf) → shelf name ≡ None → (shelf w.cnf ≡ None) ⊎ (shelf w.proof ≡ None)) → IsTold a (λ t. IsNone (t.shelf name)) → IsTold a (λ t. o.stops t.shelf outcome.ReadFault)
    lacks_one name either lacks =
        told_none_of a (λ shelf. shelf name) (λ shelf. o.stops shelf outcome.ReadFault) (λ shelf. IsDenoted shelf w.opb w.bound p × Known shelf) (λ shelf is none. checks.stops shelf _ is.1 (lacking p is.0 (either shelf none)))
        (both_told a (λ t. IsDenoted t.shelf w.opb w.bound p) (λ t. Known t.shelf) (λ t. IsDenoted t.shelf w.opb w.bound p × Known t.shelf) (λ t is so. (is, so)) denoted known) lacks

    pub unopened_implements : a.view.reading 1 ≡ false → a.view.reading 2 ≡ false → OpenBy o a b → StopsOpening w.cnf w.proof a b → Implements o a b outcome.ReadFault
    unopened_implements one two unjudged (no_cnf fails lacks) =
        is_unread o a b same (by_same (length o.texts)) fails (λ steady. (cnf_text, checks.has_cnf, lacks steady, lacks_one w.cnf (λ shelf none. inl none) (lacks steady)))
        (unjudged (keeps_by 3 same a b (by_same 3) fails.view) (shelf_stays same a b (by_same 3) fails)
        (unbegun_both p b (shelf_stays same a b (by_same 3) fails (λ shelf. IsDenoted shelf w.opb w.bound p) denoted) (ap (λ (v : View). v.reading 1) fails.view ∙ one) (ap (λ (v : View). v.reading 2) fails.view ∙ two)))
    unopened_implements one two unjudged (no_proof fails lacks) =
        is_unread o a b (opened 1 w.cnf) (by_opened (length o.texts) 1 w.cnf (omega (arith, checks.three))) fails (λ steady. (proof_text, checks.has_proof, lacks steady, lacks_one w.proof (λ shelf none. inr none) (lacks steady)))
        (unjudged (keeps_by 3 (opened 1 w.cnf) a b (by_opened 3 1 w.cnf (omega arith)) fails.view) (shelf_stays (opened 1 w.cnf) a b (by_opened 3 1 w.cnf (omega arith)) fails)
        (unbegun_second p b (shelf_stays (opened 1 w.cnf) a b (by_opened 3 1 w.cnf (omega arith)) fails (λ shelf. IsDenoted shelf w.opb w.bound p) denoted) a fails.view two))

module _ (w : CheckWords) (p : Problem) (d e : DeskState) (kept : IsTrue e.keeps) (denoted : IfTold d (λ t. IsDenoted t.shelf w.opb w.bound p)) (both : IfTold d (HasBoth w.cnf w.proof)) where
  abbrev pub JudgedSo : Answer → Type 0
  JudgedSo answer = IfTold d (λ t. IsJudged t.shelf w answer)

  pub judged_so : (answer : Answer) → TakesBoth 1 2 (λ c q. Walk p c q answer) d e → JudgedSo answer
  judged_so answer takes = by_cases d.view.told denoted both (takes.texts kept)
    where
      by_cases : (told : Option Told) → IfSome told (λ t. IsDenoted t.shelf w.opb w.bound p) → IfSome told (HasBoth w.cnf w.proof) → IfSome told (λ t. Walk p (t.left 1) (t.left 2) answer) → IfSome told (λ t. IsJudged t.shelf w answer)
      by_cases None denoted both walk = tt
      by_cases (Some t) denoted both walk = record {
        problem = p;
        cnf = t.left 1;
        proof = t.left 2;
        denoted = denoted;
        has_cnf = both.has_cnf;
        has_proof = both.has_proof;
        judged = walk;
      }

  pub goes_both : (few : ℕ) (P : List ℕ → List ℕ → Type 0) → TakesBoth 1 2 P d e → Goes few nothing d e
  goes_both few P takes = goes_reading few nothing (both_taken 1 2 takes.of_one takes.of_two) d e (by_both_taken few 1 2 takes.of_one takes.of_two) takes.reached

  has_kind : (Known : Shelf → Type 0) (o : CommandSpec) → Checks w Known o → (file : File) → (file ≡ Cnf) ⊎ (file ≡ Proof) → HasKind file o.texts
  has_kind Known o checks file (inl cnf) = subst (λ (f : File). HasKind f o.texts) (sym cnf) checks.cnf_kind
  has_kind Known o checks file (inr proof) = subst (λ (f : File). HasKind f o.texts) (sym proof) checks.proof_kind

  -- a read failed, before which the answer was open
  unjudged_so : IsTrue (d.view.reading 1) → IsTrue (d.view.reading 2) → FailsBoth 1 2 (LeavesOpen p) d e → IfTold e (UnjudgedIn w e.ended e.view)
  unjudged_so one two fails = subst (λ (v : View). IfSome v.told (UnjudgedIn w e.ended v)) (sym fails.fails.view) (by_cases d.view.told denoted both (fails.told kept))
    where
      after : Option Told → View
      after told = both_taken 1 2 fails.of_one fails.of_two (record d.view { told = told })

      by_cases : (told : Option Told) → IfSome told (λ t. IsDenoted t.shelf w.opb w.bound p) → IfSome told (HasBoth w.cnf w.proof) → IfSome told (λ t. LeavesOpen p (take fails.of_one (t.left 1)) (take fails.of_two (t.left 2))) → IfSome (after told).told (UnjudgedIn w e.ended (after told))
      by_cases None denoted both leaves = tt
      by_cases (Some t) denoted both leaves =
          let u : Told = record t { left = put (put t.left 1 (drop fails.of_one (t.left 1))) 2 (drop fails.of_two (t.left 2)) } in
          let cnf = taken-drop (after (Some t)) u 1 w.cnf (t.left 1) fails.of_one one both.has_cnf refl in
          let proof = taken-drop (after (Some t)) u 2 w.proof (t.left 2) fails.of_two two both.has_proof refl in
          inr (p, denoted, subst (λ (x : Option (List ℕ)). LeavesOpen p (unwrap_or x []) (unwrap_or (taken_in (after (Some t)) u 2 w.proof) [])) (sym cnf) (subst (λ (x : Option (List ℕ)). LeavesOpen p (take fails.of_one (t.left 1)) (unwrap_or x [])) (sym proof) leaves))

  module _ (Known : Shelf → Type 0) (o : CommandSpec) (checks : Checks w Known o) (known : IfTold d (λ t. Known t.shelf)) where
    stops_so : (answer : Answer) (end : Outcome) → ((shelf : Shelf) → IsJudged shelf w answer → StopsCheck shelf w end) → TakesBoth 1 2 (λ c q. Walk p c q answer) d e → IfTold d (λ t. o.stops t.shelf end)
    stops_so answer end stopping takes =
        both_told d (λ t. IsJudged t.shelf w answer) (λ t. Known t.shelf) (λ t. o.stops t.shelf end) (λ t judged so. checks.stops t.shelf end so (stopping t.shelf judged)) (judged_so answer takes) known

    -- a text's fault, a read that failed, or want of memory
    pub stopped_implements : IsTrue (d.view.reading 1) → IsTrue (d.view.reading 2) → OpenBy w o d e → (f : CheckFault) → StopsChecking p 1 2 d e f → NamesText f → (IsSteady d → f ≢ fault.ReadFault) → Implements o d e (check_refusal f)
    stopped_implements one two unjudged (fault.Refused file place expected) stops names steady =
        is_refused o d e _ (goes_both (length o.texts) _ stops) (has_kind Known o checks file names) (stops_so (Err (fault.Refused file place expected)) _ (λ shelf judged. token file place expected judged) stops)
    stopped_implements one two unjudged (fault.Limit file place which) stops names steady =
        is_refused o d e _ (goes_both (length o.texts) _ stops) (has_kind Known o checks file names) (stops_so (Err (fault.Limit file place which)) _ (λ shelf judged. limit file place which judged) stops)
    stopped_implements one two unjudged fault.ReadFault stops names steady =
        is_unread o d e (both_taken 1 2 stops.of_one stops.of_two) (by_both_taken (length o.texts) 1 2 stops.of_one stops.of_two) stops.fails (λ is. absurd (steady is refl))
        (unjudged (keeps_by 3 (both_taken 1 2 stops.of_one stops.of_two) d e (by_both_taken 3 1 2 stops.of_one stops.of_two) stops.fails.view)
        (shelf_stays (both_taken 1 2 stops.of_one stops.of_two) d e (by_both_taken 3 1 2 stops.of_one stops.of_two) stops.fails) (unjudged_so one two stops))
    stopped_implements one two unjudged fault.NoMemory stops names steady = bare_memory o d e (goes_both (length o.texts) _ stops)

    -- a step that is not allowed
    pub rejected_implements : (line : ℕ) (denied : Denied) → TakesBoth 1 2 (λ c q. Walk p c q (Ok (Rejected line denied))) d e → Implements o d e (outcome.Rejected line denied)
    rejected_implements line denied takes =
        is_refused o d e _ (goes_both (length o.texts) _ takes) checks.proof_kind (stops_so (Ok (Rejected line denied)) _ (λ shelf judged. denial line denied judged) takes)

  -- all is allowed
  accepted_due : Goes 3 nothing d e → TakesBoth 1 2 (λ c q. Walk p c q (Ok Accepted)) d e → IfTold e (λ t. (check_spec w).done t.shelf (only_words (codes "accepted\n")))
  accepted_due goes takes = shelf_is_if d e goes (λ shelf. (check_spec w).done shelf (only_words (codes "accepted\n"))) (told_more d _ _ (λ t judged. (judged, refl)) (judged_so (Ok Accepted) takes))

  pub accepted_implements : (f : DeskState) → (IsSteady e → IsSome e.view.told) → TakesBoth 1 2 (λ c q. Walk p c q (Ok Accepted)) d e → (answer : Outcome) → EndsSaying (codes "accepted\n") e f answer → Implements (check_spec w) d f answer
  accepted_implements f tells takes answer ends =
      let goes = goes_both 3 _ takes in
      implements_after (check_spec w) d e f goes answer (saying_implements (check_spec w) (codes "accepted\n") e f tells (accepted_due goes takes) answer ends)

-- ---- from before the problem was read

module _ {w : CheckWords} {o : CommandSpec} (checks : Checks w anything o) {a : DeskState} (closed : IsClosed a) where
  -- what is open for the check is so for the command, where no slot behind the check's was opened
  abbrev pub Leaves : DeskState → Type 0
  Leaves b = ((slot : ℕ) → 3 ≤ slot → b.view.reading slot ≡ false) → IfTold b (UnjudgedIn w b.ended b.view) → IsOpenIn o b

  -- the problem was not read, or a text behind it was not opened
  pub before_implements : (others : List Text) → o.texts ≡ first_text w ∷ others → (d : DeskState) → IsTrue d.keeps → Leaves d → (answer : Outcome) → StopsBefore w a d answer → Implements o a d answer
  before_implements others first d kept leaves _ (not_read answer stops lacks unended) =
      unread_ends o w.opb others first w.bound (λ shelf answer is. checks.stops shelf answer tt (unread answer is)) answer stops lacks unended
      (λ keeps more. leaves (λ slot le. keeps slot (omega (arith, le)) ∙ closed.reading slot) (unread_yet w d more (keeps 1 (omega arith) ∙ closed.reading 1) (keeps 2 (omega arith) ∙ closed.reading 2)))
  before_implements others first d kept leaves _ (not_opened p between read stops) =
      let goes = goes_fetched 1 0 w.opb read.fetched.0 a between (omega arith) read.fetched.1 in
      (read_first o w.opb others first w.bound read.fetched d _
      (unopened_implements w anything o checks p between d (posed o w.opb others first w.bound read.fetched p (read.denotes ((opening_stays w.cnf w.proof between d stops).kept kept))) (always between (λ t. anything t.shelf) (λ t. tt))
      (goes.reading 1 (omega arith) ∙ closed.reading 1) (goes.reading 2 (omega arith) ∙ closed.reading 2) (λ keeps same_shelf. leaves (λ slot le. keeps slot le ∙ goes.reading slot (omega (arith, le)) ∙ closed.reading slot)) stops))

  module _ {p : Problem} {d : DeskState} (is : IsOpened w p a d) where
    opened_goes : (few : ℕ) → 2 < few → Goes few nothing a d
    opened_goes few less =
        goes_then a is.between d (goes_fetched few 0 w.opb is.read.fetched.0 a is.between (omega (arith, less)) is.read.fetched.1)
        (goes_reading few nothing (opened_both w.cnf w.proof) is.between d (by_both_opened few w.cnf w.proof less) is.reached)

    -- the slots behind the check's are still closed
    pub closed_behind : (slot : ℕ) → 3 ≤ slot → d.view.reading slot ≡ false
    closed_behind slot le = (opened_goes 3 (omega arith)).reading slot le ∙ closed.reading slot

    pub still_posed : IsTrue d.keeps → IfTold d (λ t. IsDenoted t.shelf w.opb w.bound p)
    still_posed kept = denoted_by w.opb w.bound p a d (opened_goes 3 (omega arith)) (is.read.denotes (is.reached.kept kept))

    pub cnf_is_open : IsTrue (d.view.reading 1)
    cnf_is_open = subst (λ (v : View). IsTrue (v.reading 1)) (sym is.reached.view) refl

    pub proof_is_open : IsTrue (d.view.reading 2)
    proof_is_open = subst (λ (v : View). IsTrue (v.reading 2)) (sym is.reached.view) refl

    pub opened_implements : (f : DeskState) (answer : Outcome) → Implements o d f answer → Implements o a f answer
    opened_implements f answer implements = implements_after o a d f (opened_goes (length o.texts) (omega (arith, checks.three))) answer implements

    pub fault_implements : (e : DeskState) → IsTrue d.keeps → IsTrue e.keeps → Leaves e → (f : CheckFault) → StopsChecking p 1 2 d e f → NamesText f → (IsSteady d → f ≢ fault.ReadFault) → Implements o a e (check_refusal f)
    fault_implements e now kept leaves f stops names steady =
        opened_implements e _ (stopped_implements w p d e kept (still_posed now) (is.found now) anything o checks (always d (λ t. anything t.shelf) (λ t. tt)) cnf_is_open proof_is_open (λ keeps same_shelf. leaves (λ slot le. keeps slot le ∙ closed_behind slot le)) f stops names steady)

    pub denied_implements : (e : DeskState) → IsTrue d.keeps → IsTrue e.keeps → (line : ℕ) (denied : Denied) → TakesBoth 1 2 (λ c q. Walk p c q (Ok (Rejected line denied))) d e → Implements o a e (outcome.Rejected line denied)
    denied_implements e now kept line denied takes =
        opened_implements e _ (rejected_implements w p d e kept (still_posed now) (is.found now) anything o checks (always d (λ t. anything t.shelf) (λ t. tt)) line denied takes)
