-- How going through a CNF, its derivation and a refutation ends a command that is to do so.
use Rattle.std.proofs.Common.{◌≡◌, ◌≢◌, ℕ, List, [], ◌∷◌, Option, Some, None, Ok, codes, inl, inr, refl, sym, subst, arith, ap, ◌∙◌, ◌≤◌, false, length, take}
use Rattle.std.specs.Prelude.{Contains, IfSome, IsNone, IsSome, IsTrue}
use Rattle.std.specs.Option.{unwrap_or}
use Rattle.pb_base.specs.declared.file.File.TheVariants.{Opb, Lrat}
use Rattle.pb_base.specs.declared.literal.Lit.{Lit}
use Rattle.pb_base.specs.declared.problem.Problem.{Problem}
use Rattle.pb_base.proofs.Members.{Contains-here, Contains-there}
use Rattle.pb_desk.specs.View.{Told, View, opened, taken}
use Rattle.pb_desk.specs.Desk.{DeskState, FailsToRead, IfTold, IsSteady, IsTold, Reads, same}
use Rattle.pb_desk.specs.LineReading.{FailsAhead, nothing_held}
use Rattle.pb_desk.specs.TwoSlots.{TakesBoth}
use Rattle.pb_dimacs.specs.CnfForms.{TakesText}
use Rattle.pb_check.specs.declared.verdict.Verdict.TheVariants.{Accepted}
use Rattle.pb_check.specs.KeptClauses.{SaysClauses}
use Rattle.pb_check.specs.Walk.{Walk}
use Rattle.pb_lrat.specs.declared.refute_fault.RefuteFault.{RefuteFault}
use Rattle.pb_lrat.specs.declared.refute_fault.RefuteFault.TheVariants as fault
use Rattle.pb_lrat.specs.LratStates.{started}
use Rattle.pb_lrat.specs.LratWalk.{LratEnding, lrat_walk}
use Rattle.pb_lrat.specs.LratWalk.{LratEnding as ending}
use Rattle.pb_lrat.specs.Refuting.{Refutes, StopsRefuting, TakesEnded}
use Rattle.pb_words.specs.RefuteWords.{RefuteWords}
use Rattle.pb_suite.specs.declared.outcome.Outcome.{Outcome}
use Rattle.pb_suite.specs.declared.outcome.Outcome.TheVariants as outcome
use Rattle.pb_suite.specs.Implementing.{Implements}
use Rattle.pb_suite.specs.Outputs.{nothing, only_words}
use Rattle.pb_suite.specs.CommandSpec.{CommandSpec, Ended, HasKind, Shelf, Taken, Text, taken_in}
use Rattle.pb_suite.specs.RefuteSpec.{refute_spec, IsAccepted, IsFollowed, IsUnfollowed, StopsRefute}
use Rattle.pb_suite.specs.RefuteSpec.StopsRefute.{unchecked, token, limit, no_refutation, lacking}
use Rattle.pb_suite.specs.Denoted.{IsDenoted}
use Rattle.pb_suite.specs.inner.Opening.{HasBoth}
use Rattle.pb_suite.specs.inner.Refuting.{EndsFollowing, EndsRefuting}
use Rattle.pb_suite.specs.inner.Refuting.EndsFollowing.{not_opened, said, stopped}
use Rattle.pb_suite.specs.inner.Refuting.EndsRefuting.{accepted_then, rejected, unchecked_so}
use Rattle.pb_suite.specs.inner.Runs.{lrat_refusal}
use Rattle.pb_suite.specs.inner.Saying.{EndsSaying}
use Rattle.pb_suite.proofs.Afterwards.{implements_after}
use Rattle.pb_suite.proofs.Endings.{bare_memory, is_refused, is_unread, IsOpenIn}
use Rattle.pb_suite.proofs.Going.{by_opened, by_same, by_taken, goes_reading, shelf_is_if, Goes}
use Rattle.pb_suite.proofs.CheckSpecs.{anything, cnf_text, goes_both, proof_text, rejected_implements, stopped_implements, Checks, UnjudgedIn}
use Rattle.pb_suite.proofs.Says.{saying_implements}
use Rattle.pb_suite.proofs.SeenChecks.{following_stays, lrat_stays}
use Rattle.pb_suite.proofs.SeenSteps.{said_stays}
use Rattle.pb_suite.proofs.Takings.{stands_whole, taken-closed, taken-on}
use Rattle.pb_suite.proofs.Texts.{both_told, told_more, told_none_of}

module _ (w : RefuteWords) where
  abbrev opb_text : Text
  opb_text = record { kind = Opb; name = w.checked.opb }

  abbrev pub lrat_text : Text
  lrat_text = record { kind = Lrat; name = w.lrat }

  -- What is specified of a command that refutes and then says a line, where this is known of the shelf: it checks, the refutation is among its texts, it stops with what stops the refutation, says the line where there is one, and is open while that is.
  pub record Refutation (line : List ℕ) (Known : Shelf → Type 0) (o : CommandSpec) : Type 0 where
    pub checks : Checks w.checked Known o
    pub four : 4 ≤ length o.texts
    pub has_lrat : Contains o.texts lrat_text
    pub lrat_kind : HasKind Lrat o.texts
    pub stops : (shelf : Shelf) (answer : Outcome) → Known shelf → StopsRefute shelf w answer → o.stops shelf answer
    pub says : (shelf : Shelf) → Known shelf → IsFollowed shelf w ending.refuted → o.done shelf (only_words line)
    pub leaves : (shelf : Shelf) (taken : Taken) (ended : Ended) → Known shelf → IsUnfollowed shelf w taken ended → o.leaves_open shelf taken ended

  pub refutation : Refutation (codes "refuted\n") anything (refute_spec w)
  refutation = record {
    checks = record {
      has_cnf = Contains-there opb_text (cnf_text w.checked ∷ proof_text w.checked ∷ lrat_text ∷ []) (cnf_text w.checked) (Contains-here (cnf_text w.checked) (proof_text w.checked ∷ lrat_text ∷ []));
      has_proof = Contains-there opb_text (cnf_text w.checked ∷ proof_text w.checked ∷ lrat_text ∷ []) (proof_text w.checked)
          (Contains-there (cnf_text w.checked) (proof_text w.checked ∷ lrat_text ∷ []) (proof_text w.checked) (Contains-here (proof_text w.checked) (lrat_text ∷ [])));
      three = omega arith;
      cnf_kind = inr (inl refl);
      proof_kind = inr (inr (inl refl));
      stops = λ shelf answer known stops. unchecked answer stops;
    };
    four = omega arith;
    has_lrat = Contains-there opb_text (cnf_text w.checked ∷ proof_text w.checked ∷ lrat_text ∷ []) lrat_text
        (Contains-there (cnf_text w.checked) (proof_text w.checked ∷ lrat_text ∷ []) lrat_text
        (Contains-there (proof_text w.checked) (lrat_text ∷ []) lrat_text (Contains-here lrat_text [])));
    lrat_kind = inr (inr (inr (inl refl)));
    stops = λ shelf answer known stops. stops;
    says = λ shelf known followed. (followed, refl);
    leaves = λ shelf taken ended known unfollowed. unfollowed;
  }

-- what was kept of the CNF are the clauses of the texts that were judged
pub accepted_so : (w : RefuteWords) (p : Problem) (vars : ℕ) (clauses : List (List Lit)) (d e : DeskState) → IsTrue e.keeps → IfTold d (λ t. IsDenoted t.shelf w.checked.opb w.checked.bound p) → IfTold d (HasBoth w.checked.cnf w.checked.proof) → TakesBoth 1 2 (λ c q. Walk p c q (Ok Accepted)) d e
    → IfTold d (λ t. SaysClauses (t.left 1) vars clauses) → IfTold d (λ t. IsAccepted t.shelf w vars clauses)
accepted_so w p vars clauses d e kept denoted both takes says = by_cases d.view.told denoted both (takes.texts kept) says
  where
    by_cases : (told : Option Told) → IfSome told (λ t. IsDenoted t.shelf w.checked.opb w.checked.bound p) → IfSome told (HasBoth w.checked.cnf w.checked.proof) → IfSome told (λ t. Walk p (t.left 1) (t.left 2) (Ok Accepted)) → IfSome told (λ t. SaysClauses (t.left 1) vars clauses)
        → IfSome told (λ t. IsAccepted t.shelf w vars clauses)
    by_cases None denoted both walk says = tt
    by_cases (Some t) denoted both walk says = record {
      judged = record { problem = p; cnf = t.left 1; proof = t.left 2; denoted = denoted; has_cnf = both.has_cnf; has_proof = both.has_proof; judged = walk };
      says_all = says;
    }

module _ (w : RefuteWords) (line : List ℕ) (Known : Shelf → Type 0) (o : CommandSpec) (r : Refutation w line Known o) where
  -- what is open for the check is so for the refutation, where its slot was not opened
  pub unfollowed : (b : DeskState) → b.view.reading 3 ≡ false → IfTold b (λ t. Known t.shelf) → IfTold b (UnjudgedIn w.checked b.ended b.view) → IsOpenIn o b
  unfollowed b closed known leaves =
      both_told b (λ t. Known t.shelf) (UnjudgedIn w.checked b.ended b.view) (λ t. o.leaves_open t.shelf (taken_in b.view t) b.ended)
      (λ t so is. r.leaves t.shelf (taken_in b.view t) b.ended so (inl (taken-closed b.view t 3 w.lrat closed, is))) known leaves

  -- ---- once the derivation was accepted

  module _ (vars : ℕ) (clauses : List (List Lit)) (a : DeskState) (known : IfTold a (λ t. Known t.shelf)) (accepted : IfTold a (λ t. IsAccepted t.shelf w vars clauses)) where
    abbrev AcceptedIn : Shelf → Type 0
    AcceptedIn shelf = IsAccepted shelf w vars clauses × Known shelf

    accepted_known : IfTold a (λ t. AcceptedIn t.shelf)
    accepted_known = both_told a (λ t. IsAccepted t.shelf w vars clauses) (λ t. Known t.shelf) (λ t. AcceptedIn t.shelf) (λ t is so. (is, so)) accepted known

    -- the file was not opened
    no_lrat : (b : DeskState) → FailsToRead same a b → (IsSteady a → IsTold a (λ t. IsNone (t.shelf w.lrat))) → a.view.reading 3 ≡ false → Implements o a b outcome.ReadFault
    no_lrat b fails lacks free = is_unread o a b same (by_same (length o.texts)) fails
        (λ steady. (
          lrat_text w,
          r.has_lrat,
          lacks steady,
          told_none_of a (λ shelf. shelf w.lrat) (λ shelf. o.stops shelf outcome.ReadFault) AcceptedIn (λ shelf is none. r.stops shelf _ is.1 (lacking vars clauses is.0 none)) accepted_known (lacks steady),
        ))
        (subst (λ (v : View). IfSome v.told (λ t. o.leaves_open t.shelf (taken_in v t) b.ended)) (sym fails.view)
        (told_more a (λ t. AcceptedIn t.shelf) (λ t. o.leaves_open t.shelf (taken_in a.view t) b.ended)
        (λ t is. r.leaves t.shelf (taken_in a.view t) b.ended is.1 (inr (vars, clauses, is.0, subst (λ (x : Option (List ℕ)). TakesEnded (started vars clauses) (unwrap_or x [])) (sym (taken-closed a.view t 3 w.lrat free)) (record { taken = refl; within = tt })))) accepted_known))

    module _ (b d : DeskState) (kept : IsTrue d.keeps) (reached : Reads (opened 3 w.lrat) a b) (found : IfTold a (λ t. IsSome (t.shelf w.lrat))) where
      open_goes : Goes (length o.texts) nothing a b
      open_goes = goes_reading (length o.texts) nothing (opened 3 w.lrat) a b (by_opened (length o.texts) 3 w.lrat (omega (arith, r.four))) reached

      text_goes : (P : List ℕ → Type 0) → TakesText 3 P b d → Goes (length o.texts) nothing b d
      text_goes P takes = goes_reading (length o.texts) nothing (taken 3 takes.count) b d (by_taken (length o.texts) 3 takes.count) takes.takes.reached

      there : IfTold b (λ t. AcceptedIn t.shelf)
      there = shelf_is_if a b open_goes AcceptedIn accepted_known

      followed : (end : LratEnding) → TakesText 3 (λ text. lrat_walk vars clauses text ≡ end) b d → IfTold b (λ t. IsFollowed t.shelf w end × Known t.shelf)
      followed end takes = by_cases b.view.told there (stands_whole 3 w.lrat a b reached.view found) (takes.text kept)
        where
          by_cases : (told : Option Told) → IfSome told (λ t. AcceptedIn t.shelf) → IfSome told (λ t. t.shelf w.lrat ≡ Some (t.left 3)) → IfSome told (λ t. lrat_walk vars clauses (t.left 3) ≡ end) → IfSome told (λ t. IsFollowed t.shelf w end × Known t.shelf)
          by_cases None is has ends = tt
          by_cases (Some t) is has ends = (record { vars = vars; clauses = clauses; lrat = t.left 3; accepted = is.0; has_lrat = has; ends = ends }, is.1)

      -- a read failed, before which all lines were taken
      unended : FailsAhead 3 nothing_held b d (TakesEnded (started vars clauses)) → IsOpenIn o d
      unended stops =
          told_more d (λ t. AcceptedIn t.shelf × TakesEnded (started vars clauses) (unwrap_or (taken_in d.view t 3 w.lrat) [])) (λ t. o.leaves_open t.shelf (taken_in d.view t) d.ended) (λ t is. r.leaves t.shelf (taken_in d.view t) d.ended is.0.1 (inr (vars, clauses, is.0.0, is.1)))
          (taken-on 3 stops.count w.lrat (λ shelf bytes. AcceptedIn shelf × TakesEnded (started vars clauses) (unwrap_or bytes [])) b d (subst (λ (v : View). IsTrue (v.reading 3)) (sym reached.view) refl) (stands_whole 3 w.lrat a b reached.view found) stops.fails.view
          (both_told b (λ t. AcceptedIn t.shelf) (λ t. (stops.count ≤ length (t.left 3)) × TakesEnded (started vars clauses) (take stops.count (t.left 3))) (λ t. AcceptedIn t.shelf × TakesEnded (started vars clauses) (take stops.count (t.left 3)))
          (λ t is ended. (is, ended.1)) there (stops.told kept)))

      unrefuted_so : (end : LratEnding) (answer : Outcome) → ((shelf : Shelf) → IsFollowed shelf w end → StopsRefute shelf w answer) → TakesText 3 (λ text. lrat_walk vars clauses text ≡ end) b d → IfTold b (λ t. o.stops t.shelf answer)
      unrefuted_so end answer stopping takes = told_more b (λ t. IsFollowed t.shelf w end × Known t.shelf) (λ t. o.stops t.shelf answer) (λ t is. r.stops t.shelf answer is.1 (stopping t.shelf is.0)) (followed end takes)

      -- the text is no refutation, a read failed, or memory was wanting
      unrefuted : (f : RefuteFault) → StopsRefuting vars clauses 3 b d f → (IsSteady b → f ≢ fault.Failed) → Implements o b d (lrat_refusal f)
      unrefuted (fault.Token place e) stops steady = is_refused o b d _ (text_goes _ stops) r.lrat_kind (unrefuted_so (ending.refused place e) _ (λ shelf ends. token place e ends) stops)
      unrefuted (fault.Limit place which) stops steady = is_refused o b d _ (text_goes _ stops) r.lrat_kind (unrefuted_so (ending.limited place which) _ (λ shelf ends. limit place which ends) stops)
      unrefuted (fault.NotRefuted number why) stops steady = is_refused o b d _ (text_goes _ stops) r.lrat_kind (unrefuted_so (ending.not_refuted number why) _ (λ shelf ends. no_refutation number why ends) stops)
      unrefuted fault.Failed stops steady = is_unread o b d (taken 3 stops.count) (by_taken (length o.texts) 3 stops.count) stops.fails (λ is. absurd (steady is refl)) (unended stops)
      unrefuted fault.NoMemory stops steady = bare_memory o b d (text_goes _ stops)

      -- it is one
      refuted_due : Refutes vars clauses 3 b d → IfTold d (λ t. o.done t.shelf (only_words line))
      refuted_due takes =
          shelf_is_if b d (text_goes _ takes) (λ shelf. o.done shelf (only_words line)) (told_more b (λ t. IsFollowed t.shelf w ending.refuted × Known t.shelf) (λ t. o.done t.shelf (only_words line)) (λ t is. r.says t.shelf is.1 is.0) (followed ending.refuted takes))

      pub after_ending : (f : RefuteFault) → StopsRefuting vars clauses 3 b d f → (IsSteady b → f ≢ fault.Failed) → Implements o a d (lrat_refusal f)
      after_ending f stops steady = implements_after o a b d open_goes _ (unrefuted f stops steady)

      pub after_saying : (e : DeskState) → (IsSteady d → IsSome d.view.told) → Refutes vars clauses 3 b d → (answer : Outcome) → EndsSaying line d e answer → Implements o a e answer
      after_saying e tells takes answer ends =
          implements_after o a b e open_goes answer (implements_after o b d e (text_goes _ takes) answer (saying_implements o line d e tells (refuted_due takes) answer ends))

    pub following_implements : (e : DeskState) → IsTrue e.keeps → (answer : Outcome) → a.view.reading 3 ≡ false → EndsFollowing vars clauses w.lrat line a e answer → Implements o a e answer
    following_implements e kept _ free (not_opened fails lacks) = no_lrat e fails lacks free
    following_implements e kept _ free (stopped b reached found f stops steady) = after_ending b e kept reached (found ((lrat_stays vars clauses b e f stops).kept kept)) f stops steady
    following_implements e kept answer free (said b d _ reached found takes tells ends) =
        let still = (said_stays line d e answer ends).kept kept in
        after_saying b d still reached (found (takes.takes.reached.kept still)) e tells takes answer ends

  -- ---- from where both texts were opened

  pub refuting_implements : (p : Problem) (d e : DeskState) → IsTrue e.keeps → (answer : Outcome) → IfTold d (λ t. IsDenoted t.shelf w.checked.opb w.checked.bound p) → IfTold d (HasBoth w.checked.cnf w.checked.proof) → IfTold d (λ t. Known t.shelf)
      → IsTrue (d.view.reading 1) → IsTrue (d.view.reading 2) → d.view.reading 3 ≡ false → EndsRefuting p w.lrat line d e answer → Implements o d e answer
  refuting_implements p d e kept _ denoted both known one two free (unchecked_so f stops names steady) =
      stopped_implements w.checked p d e kept denoted both Known o r.checks known one two (λ keeps shelf unjudged. unfollowed e (keeps 3 (omega arith) ∙ free) (shelf Known known) unjudged) f stops names steady
  refuting_implements p d e kept _ denoted both known one two free (rejected number denied takes) = rejected_implements w.checked p d e kept denoted both Known o r.checks known number denied takes
  refuting_implements p d e kept answer denoted both known one two free (accepted_then b vars clauses _ takes says ends) =
      let still = (following_stays vars clauses w.lrat line b e answer ends).kept kept in
      let goes = goes_both w.checked p d b still denoted both (length o.texts) _ takes in
      implements_after o d b e goes answer
      (following_implements vars clauses b (shelf_is_if d b goes Known known) (shelf_is_if d b goes (λ shelf. IsAccepted shelf w vars clauses) (accepted_so w p vars clauses d b still denoted both takes (says still)))
      e kept answer (ap (λ (v : View). v.reading 3) takes.reached.view ∙ free) ends)
