-- How a command ends that is to prove a solution optimal.
use Rattle.std.proofs.Common.{◌≡◌, ◌≤◌, ◌<◌, ◌^◌, ◌∙◌, ℕ, List, [], ◌∷◌, Option, Some, None, Ok, ap, arith, false, inl, inr, refl, subst, sym}
use Rattle.std.specs.Prelude.{is_some, IsNone, IsSome, IsTrue}
use Rattle.pb_base.specs.declared.file.File.TheVariants.{Opb, Cnf, Proof, Lrat, Model as ModelText}
use Rattle.pb_base.specs.declared.literal.Term.{Term}
use Rattle.pb_base.specs.declared.problem.Problem.{Problem}
use Rattle.pb_base.proofs.Members.{Contains-here, Contains-there}
use Rattle.pb_desk.specs.View.{View}
use Rattle.pb_desk.specs.Desk.{DeskState, IfTold, IsClosed, IsSteady, IsTold, Reads}
use Rattle.pb_model.specs.declared.decoding.Decoded.TheVariants as decoded
use Rattle.pb_model.specs.declared.model.Model.{Model}
use Rattle.pb_model.specs.Decoding.{IsDecoded}
use Rattle.pb_model.specs.ModelReading.{told}
use Rattle.pb_model.specs.SolutionText.{optimum_text}
use Rattle.pb_opb.specs.declared.bound.BoundFault.{BoundFault}
use Rattle.pb_opb.specs.declared.bound.BoundFault.TheVariants as bound
use Rattle.pb_opb.specs.Bounded.{bound_weight, bounded}
use Rattle.pb_words.specs.OptimumWords.{OptimumWords}
use Rattle.pb_suite.specs.declared.outcome.Outcome.{Outcome}
use Rattle.pb_suite.specs.declared.outcome.Outcome.TheVariants as outcome
use Rattle.pb_suite.specs.CheckSpec.StopsCheck.{unread as no_problem}
use Rattle.pb_suite.specs.CommandSpec.{IsUnended, Shelf, Text, taken_in}
use Rattle.pb_suite.specs.DecodeSpec.{IsAnswered}
use Rattle.pb_suite.specs.DecodeSpec.StopsDecode.{no_model, unanswered, violated}
use Rattle.pb_suite.specs.Denoted.{IsDenoted}
use Rattle.pb_suite.specs.Implementing.{Implements}
use Rattle.pb_suite.specs.OptimumSpec.{decoding_of, next_below, optimum_spec, refuting_of, HasAim, IsReached, IsUnbegun, StopsOptimum}
use Rattle.pb_suite.specs.OptimumSpec.StopsOptimum.{aimless, undecoded, unproved}
use Rattle.pb_suite.specs.Outputs.{nothing}
use Rattle.pb_suite.specs.Refusals.{RefusesModel}
use Rattle.pb_suite.specs.Refusals.IsUnread.{lacks as absent, refuses as refusal}
use Rattle.pb_suite.specs.Refusals.RefusesOpb.{heavy}
use Rattle.pb_suite.specs.RefuteSpec.StopsRefute.{unchecked}
use Rattle.pb_suite.specs.Seen.{seen_from}
use Rattle.pb_suite.specs.inner.Opening.{opened_both, HasBoth, StopsOpening}
use Rattle.pb_suite.specs.inner.Optima.{HasFree, IsAimedAt}
use Rattle.pb_suite.specs.inner.Refuting.{EndsRefuting}
use Rattle.pb_suite.specs.inner.Runs.{bound_refusal, fetched, HasText, IsUnendedIn, StopsReading}
use Rattle.pb_suite.specs.inner.Runs.RefusesFile.{token as at_token, limit as at_limit}
use Rattle.pb_suite.specs.inner.Runs.StopsFetching.{not_open, in_text}
use Rattle.pb_suite.specs.inner.Runs.StopsReading.{not_read, no_memory, refused}
use Rattle.pb_suite.proofs.Afterwards.{implements_after}
use Rattle.pb_suite.proofs.CheckSpecs.{unopened_implements}
use Rattle.pb_suite.proofs.DecodeSpecs.{answered_by}
use Rattle.pb_suite.proofs.Endings.{always, bare_memory, is_refused}
use Rattle.pb_suite.proofs.Going.{by_both_opened, goes_reading, shelf_is_if, stays, Goes}
use Rattle.pb_suite.proofs.Refused.{reading_ends}
use Rattle.pb_suite.proofs.RefuteSpecs.{refuting_implements, unfollowed, Refutation}
use Rattle.pb_suite.proofs.SeenLemmas.{reading_seen}
use Rattle.pb_suite.proofs.Takings.{taken-closed}
use Rattle.pb_suite.proofs.Texts.{both_told, told_more, told_none_of}

pub no_objective : (o : Option (List Term)) → is_some o ≡ false → o ≡ None
no_objective None is = refl
no_objective (Some ts) is = cc

-- the slots of the texts that are to refute are closed where the problem's alone was opened
pub free_read : (name : List ℕ) (count : ℕ) (a b : DeskState) → IsClosed a → b.view ≡ fetched 0 name count a.view → HasFree b
free_read name count a b closed is = record {
  cnf = ap (λ (v : View). v.reading 1) is ∙ closed.reading 1;
  proof = ap (λ (v : View). v.reading 2) is ∙ closed.reading 2;
  lrat = ap (λ (v : View). v.reading 3) is ∙ closed.reading 3;
}

-- they are so of the desk as it is seen from a later state
pub free_seen : (a d : DeskState) → HasFree a → HasFree (seen_from d a)
free_seen a d free = record { cnf = reading_seen 1 a d free.cnf; proof = reading_seen 2 a d free.proof; lrat = reading_seen 3 a d free.lrat }

-- and stay so where another was opened and read
pub free_fetched : (name : List ℕ) (count : ℕ) (b d : DeskState) → d.view ≡ fetched 4 name count b.view → HasFree b → HasFree d
free_fetched name count b d is free = record {
  cnf = ap (λ (v : View). v.reading 1) is ∙ free.cnf;
  proof = ap (λ (v : View). v.reading 2) is ∙ free.proof;
  lrat = ap (λ (v : View). v.reading 3) is ∙ free.lrat;
}

-- or was to be
free_unread : (name : List ℕ) (P : List ℕ → Outcome → Type 0) (b d : DeskState) (answer : Outcome) → StopsReading ModelText 4 name P b d answer → answer ≡ outcome.ReadFault → HasFree b → HasFree d
free_unread name P b d _ (not_read (not_open fails)) is free = record {
  cnf = ap (λ (v : View). v.reading 1) fails.view ∙ free.cnf;
  proof = ap (λ (v : View). v.reading 2) fails.view ∙ free.proof;
  lrat = ap (λ (v : View). v.reading 3) fails.view ∙ free.lrat;
}
free_unread name P b d _ (not_read (in_text count fails)) is free = free_fetched name count b d fails.view free
free_unread name P b d _ (no_memory count reached) is free = cc
free_unread name P b d _ (refused count _ (at_token place expected) reached found) is free = cc
free_unread name P b d _ (refused count _ (at_limit place which) reached found) is free = cc

module _ (w : OptimumWords) where
  abbrev opb_text : Text
  opb_text = record { kind = Opb; name = w.opb }

  abbrev cnf_text : Text
  cnf_text = record { kind = Cnf; name = w.cnf }

  abbrev proof_text : Text
  proof_text = record { kind = Proof; name = w.proof }

  abbrev lrat_text : Text
  lrat_text = record { kind = Lrat; name = w.lrat }

  abbrev model_text : Text
  model_text = record { kind = ModelText; name = w.model }

  -- none of the texts that are to refute is open
  unbegun : (d : DeskState) → HasFree d → IfTold d (λ t. IsUnbegun w (taken_in d.view t))
  unbegun d free = always d (λ t. IsUnbegun w (taken_in d.view t)) (λ t. (taken-closed d.view t 1 w.cnf free.cnf, taken-closed d.view t 2 w.proof free.proof, taken-closed d.view t 3 w.lrat free.lrat))

  -- the problem's text was not read out
  pub unread_yet : (b : DeskState) → HasFree b → b.view.reading 4 ≡ false → IsUnendedIn 0 w.opb b → IfTold b (λ t. (optimum_spec w).leaves_open t.shelf (taken_in b.view t) b.ended)
  unread_yet b free closed more =
      both_told b (λ t. IsUnbegun w (taken_in b.view t)) (λ t. IsUnended 0 w.opb (taken_in b.view t) b.ended) (λ t. (optimum_spec w).leaves_open t.shelf (taken_in b.view t) b.ended)
      (λ t none is. inl (is, none, taken-closed b.view t 4 w.model closed)) (unbegun b free) more

  module _ (p : Problem) (b : DeskState) where
    -- there is no objective
    pub aimless_implements : IfTold b (λ t. IsDenoted t.shelf w.opb None p) → p.objective ≡ None → Implements (optimum_spec w) b b outcome.NoObjective
    aimless_implements denoted none =
        is_refused (optimum_spec w) b b outcome.NoObjective (stays 5 b) (inl refl) (told_more b (λ t. IsDenoted t.shelf w.opb None p) (λ t. StopsOptimum t.shelf w outcome.NoObjective) (λ t is. aimless p is none) denoted)

    pub aimed : IfTold b (λ t. IsDenoted t.shelf w.opb None p) → IsSome p.objective → IfTold b (λ t. HasAim t.shelf w p)
    aimed denoted some = told_more b (λ t. IsDenoted t.shelf w.opb None p) (λ t. HasAim t.shelf w p) (λ t is. record { denoted = is; aims = some }) denoted

    module _ (aim : IfTold b (λ t. HasAim t.shelf w p)) where
      -- a solver's text that is not read, or is refused
      pub no_answer_implements : (d : DeskState) → HasFree b → (answer : Outcome) → StopsReading ModelText 4 w.model (RefusesModel p.vars) b d answer
          → (IsSteady b → answer ≡ outcome.ReadFault → IsTold b (λ t. IsNone (t.shelf w.model))) → (answer ≡ outcome.ReadFault → IsUnendedIn 4 w.model d) → Implements (optimum_spec w) b d answer
      no_answer_implements d free answer stops lacks unended =
          reading_ends (optimum_spec w) 4 model_text (omega arith)
          (Contains-there opb_text (cnf_text ∷ proof_text ∷ lrat_text ∷ model_text ∷ []) model_text
          (Contains-there cnf_text (proof_text ∷ lrat_text ∷ model_text ∷ []) model_text
          (Contains-there proof_text (lrat_text ∷ model_text ∷ []) model_text (Contains-there lrat_text (model_text ∷ []) model_text (Contains-here model_text [])))))
          (inr (inr (inr (inr (inl refl))))) (RefusesModel p.vars) b d
          (told_none_of b (λ shelf. shelf w.model) (λ shelf. StopsOptimum shelf w outcome.ReadFault) (λ shelf. HasAim shelf w p) (λ shelf is none. undecoded p _ is (unanswered p _ is.denoted (absent none))) aim)
          (λ end found. both_told b (λ t. HasAim t.shelf w p) (λ t. (text : List ℕ) × (t.shelf w.model ≡ Some text) × RefusesModel p.vars text end) (λ t. StopsOptimum t.shelf w end)
          (λ t is has. undecoded p end is (unanswered p end is.denoted (refusal has.0 end has.1 has.2))) aim found)
          answer stops lacks
          (λ is keeps shelf. both_told d (λ t. HasAim t.shelf w p × IsUnbegun w (taken_in d.view t)) (λ t. IsUnended 4 w.model (taken_in d.view t) d.ended) (λ t. (optimum_spec w).leaves_open t.shelf (taken_in d.view t) d.ended)
          (λ t so more. inr (inl (p, so.0, so.1, more)))
          (both_told d (λ t. HasAim t.shelf w p) (λ t. IsUnbegun w (taken_in d.view t)) (λ t. HasAim t.shelf w p × IsUnbegun w (taken_in d.view t)) (λ t so none. (so, none)) (shelf (λ s. HasAim s w p) aim) (unbegun d (free_unread w.model (RefusesModel p.vars) b d answer stops is free)))
          (unended is))

      -- what the solver's text tells
      module _ (m : Model) (says : HasText w.model (λ text. told p.vars text ≡ Ok m) b) where
        pub answered : IfTold b (λ t. IsAimedAt t.shelf w p m)
        answered =
            both_told b (λ t. HasAim t.shelf w p) (λ t. IsAnswered t.shelf (decoding_of w) p m) (λ t. IsAimedAt t.shelf w p m) (λ t so is. record { aim = so; answered = is }) aim
            (answered_by (decoding_of w) p m b (told_more b (λ t. HasAim t.shelf w p) (λ t. IsDenoted t.shelf w.opb None p) (λ t so. so.denoted) aim) says)

-- ---- once the solver's text was read

module _ (w : OptimumWords) (p : Problem) (m : Model) (b : DeskState) (answered : IfTold b (λ t. IsAimedAt t.shelf w p m)) where
  pub no_model_implements : IsDecoded p m decoded.NoModel → Implements (optimum_spec w) b b outcome.NoModel
  no_model_implements is =
      is_refused (optimum_spec w) b b outcome.NoModel (stays 5 b) (inr (inr (inr (inr (inl refl)))))
      (told_more b (λ t. IsAimedAt t.shelf w p m) (λ t. StopsOptimum t.shelf w outcome.NoModel) (λ t so. undecoded p _ so.aim (no_model p m (record { answered = so.answered; decoded = is }))) answered)

  pub violated_implements : (statement : ℕ) → IsDecoded p m (decoded.Violates statement) → Implements (optimum_spec w) b b (outcome.NotASolution statement)
  violated_implements statement is =
      is_refused (optimum_spec w) b b (outcome.NotASolution statement) (stays 5 b) (inr (inr (inr (inr (inl refl)))))
      (told_more b (λ t. IsAimedAt t.shelf w p m) (λ t. StopsOptimum t.shelf w (outcome.NotASolution statement)) (λ t so. undecoded p _ so.aim (violated p m statement (record { answered = so.answered; decoded = is }))) answered)

  pub reached_so : IsDecoded p m decoded.Solution → IfTold b (λ t. IsReached t.shelf w p m)
  reached_so is =
      told_more b (λ t. IsAimedAt t.shelf w p m) (λ t. IsReached t.shelf w p m) (λ t so. record { aim = so.aim; comes = record { answered = so.answered; decoded = is } }) answered

-- ---- behind a solution

module _ (w : OptimumWords) (p : Problem) (m : Model) where
  -- it refutes the problem with the bound one below, and then says the optimum
  refutes_better : Refutation (refuting_of w (next_below p m)) (optimum_text p m.values) (λ shelf. IsReached shelf w p m) (optimum_spec w)
  refutes_better = record {
    checks = record {
      three = omega arith;
      has_cnf = Contains-there (opb_text w) (cnf_text w ∷ proof_text w ∷ lrat_text w ∷ model_text w ∷ []) (cnf_text w) (Contains-here (cnf_text w) (proof_text w ∷ lrat_text w ∷ model_text w ∷ []));
      has_proof = Contains-there (opb_text w) (cnf_text w ∷ proof_text w ∷ lrat_text w ∷ model_text w ∷ []) (proof_text w)
          (Contains-there (cnf_text w) (proof_text w ∷ lrat_text w ∷ model_text w ∷ []) (proof_text w) (Contains-here (proof_text w) (lrat_text w ∷ model_text w ∷ [])));
      cnf_kind = inr (inl refl);
      proof_kind = inr (inr (inl refl));
      stops = λ shelf answer known stops. unproved p m answer known (unchecked answer stops);
    };
    four = omega arith;
    has_lrat = Contains-there (opb_text w) (cnf_text w ∷ proof_text w ∷ lrat_text w ∷ model_text w ∷ []) (lrat_text w)
        (Contains-there (cnf_text w) (proof_text w ∷ lrat_text w ∷ model_text w ∷ []) (lrat_text w)
        (Contains-there (proof_text w) (lrat_text w ∷ model_text w ∷ []) (lrat_text w) (Contains-here (lrat_text w) (model_text w ∷ []))));
    lrat_kind = inr (inr (inr (inl refl)));
    stops = λ shelf answer known stops. unproved p m answer known stops;
    says = λ shelf known followed. (p, m, record { reached = known; followed = followed }, refl);
    leaves = λ shelf taken ended known undecided. inr (inr (p, m, known, undecided));
  }

  module _ (a : DeskState) (reached : IfTold a (λ t. IsReached t.shelf w p m)) where
    -- the bound is too heavy, or memory was wanting for it
    pub unbounded_implements : (f : BoundFault) → (f ≡ bound.Weight → 2 ^ 100 ≤ bound_weight p (next_below p m)) → Implements (optimum_spec w) a a (bound_refusal f)
    unbounded_implements bound.NoMemory weight = bare_memory (optimum_spec w) a a (stays 5 a)
    unbounded_implements bound.Weight weight =
        is_refused (optimum_spec w) a a _ (stays 5 a) (inl refl)
        (told_more a (λ t. IsReached t.shelf w p m) (λ t. StopsOptimum t.shelf w (bound_refusal bound.Weight))
        (λ t so. unproved p m _ so (unchecked _ (no_problem _ (refusal so.aim.denoted.text _ so.aim.denoted.on_shelf (heavy so.aim.denoted.denotes.plain (next_below p m) refl so.aim.denoted.denotes.reads (subst (λ (q : Problem). 2 ^ 100 ≤ bound_weight q (next_below p m)) so.aim.denoted.denotes.is (weight refl))))))) reached)

    -- the bounded problem
    module _ (q : Problem) (is : q ≡ bounded p (next_below p m)) (light : bound_weight p (next_below p m) < 2 ^ 100) where
      denoted_with : (shelf : Shelf) → IsReached shelf w p m → IsDenoted shelf w.opb (Some (next_below p m)) q
      denoted_with shelf so =
          let found = so.aim.denoted in
          record {
            text = found.text;
            on_shelf = found.on_shelf;
            denotes = record {
              plain = found.denotes.plain;
              reads = found.denotes.reads;
              light = subst (λ (r : Problem). bound_weight r (next_below p m) < 2 ^ 100) found.denotes.is light;
              is = is ∙ ap (λ (r : Problem). bounded r (next_below p m)) found.denotes.is;
            };
          }

      posed : IfTold a (λ t. IsDenoted t.shelf w.opb (Some (next_below p m)) q)
      posed = told_more a (λ t. IsReached t.shelf w p m) (λ t. IsDenoted t.shelf w.opb (Some (next_below p m)) q) (λ t so. denoted_with t.shelf so) reached

      -- one of both files was not opened
      pub unopened : (d : DeskState) → HasFree a → StopsOpening w.cnf w.proof a d → Implements (optimum_spec w) a d outcome.ReadFault
      unopened d free stops =
          let r = refuting_of w (next_below p m) in
          let Known : Shelf → Type 0 = λ shelf. IsReached shelf w p m in
          unopened_implements r.checked Known (optimum_spec w) refutes_better.checks q a d posed reached free.cnf free.proof
          (λ keeps shelf unjudged. unfollowed r (optimum_text p m.values) Known (optimum_spec w) refutes_better d (keeps 3 (omega arith) ∙ free.lrat) (shelf Known reached) unjudged) stops

      -- both were, and then all is gone through
      pub opened_implements : (d e : DeskState) → IsTrue e.keeps → (answer : Outcome) → HasFree a → Reads (opened_both w.cnf w.proof) a d → IfTold d (HasBoth w.cnf w.proof) → EndsRefuting q w.lrat (optimum_text p m.values) d e answer → Implements (optimum_spec w) a e answer
      opened_implements d e kept answer free far both ends =
          let goes : Goes 5 nothing a d = goes_reading 5 nothing (opened_both w.cnf w.proof) a d (by_both_opened 5 w.cnf w.proof (omega arith)) far in
          implements_after (optimum_spec w) a d e goes answer
          (refuting_implements (refuting_of w (next_below p m)) (optimum_text p m.values) (λ shelf. IsReached shelf w p m) (optimum_spec w) refutes_better q d e kept answer
          (shelf_is_if a d goes (λ shelf. IsDenoted shelf w.opb (Some (next_below p m)) q) posed) both (shelf_is_if a d goes (λ shelf. IsReached shelf w p m) reached)
          (subst (λ (v : View). IsTrue (v.reading 1)) (sym far.view) refl) (subst (λ (v : View). IsTrue (v.reading 2)) (sym far.view) refl) (ap (λ (v : View). v.reading 3) far.view ∙ free.lrat) ends)
