-- How texts were opened, checked and refuted, as it is seen from a later state of the desk.
use Rattle.std.proofs.Common.{◌≡◌, ℕ, List, Some, refl, take}
use Rattle.std.specs.Prelude.{IsNone, IsSome, IsSomeAnd, IsTrue, Ok, Err}
use Rattle.pb_base.specs.declared.literal.Lit.{Lit}
use Rattle.pb_base.specs.declared.problem.Problem.{Problem}
use Rattle.pb_desk.specs.View.{View, opened, taken}
use Rattle.pb_desk.specs.Desk.{DeskState, same}
use Rattle.pb_desk.specs.TwoSlots.{both_taken, FailsBoth, TakesBoth}
use Rattle.pb_check.specs.KeptClauses.{SaysClauses}
use Rattle.pb_check.specs.Outcomes.{LeavesOpen, StopsCheck}
use Rattle.pb_check.specs.Walk.{Walk}
use Rattle.pb_check.specs.declared.verdict.CheckFault.{CheckFault}
use Rattle.pb_check.specs.declared.verdict.CheckFault.TheVariants as check
use Rattle.pb_check.specs.declared.verdict.Verdict.TheVariants.{Accepted, Rejected}
use Rattle.pb_lrat.specs.LratStates.{started}
use Rattle.pb_lrat.specs.LratWalk.{lrat_walk}
use Rattle.pb_lrat.specs.LratWalk.{LratEnding as ending}
use Rattle.pb_lrat.specs.Refuting.{StopsRefuting, TakesEnded}
use Rattle.pb_lrat.specs.declared.refute_fault.RefuteFault.{RefuteFault}
use Rattle.pb_lrat.specs.declared.refute_fault.RefuteFault.TheVariants as refute
use Rattle.pb_words.specs.CheckWords.{CheckWords}
use Rattle.pb_suite.specs.declared.outcome.Outcome.{Outcome}
use Rattle.pb_suite.specs.Denoted.{Denotes}
use Rattle.pb_suite.specs.Seen.{seen_from, Stays}
use Rattle.pb_suite.specs.inner.Runs.{HasText}
use Rattle.pb_suite.specs.inner.Opening.{opened_both, HasBoth, IsOpened, StopsOpening}
use Rattle.pb_suite.specs.inner.Opening.StopsOpening.{no_cnf, no_proof}
use Rattle.pb_suite.specs.inner.Refuting.{EndsFollowing, EndsRefuting}
use Rattle.pb_suite.specs.inner.Refuting.EndsFollowing.{not_opened, said, stopped}
use Rattle.pb_suite.specs.inner.Refuting.EndsRefuting.{accepted_then, rejected, unchecked_so}
use Rattle.pb_suite.proofs.SeenLemmas.{reads_seen, reads_stays, stays_then, steady_seen, steady_was, told_seen, unread_seen, unread_stays}
use Rattle.pb_suite.proofs.SeenSteps.{ahead_seen, fetched_seen, said_stays, saying_seen, takes_on, takes_seen, takes_stays, telling_desk}

-- ---- two texts side by side

module _ (x y : ℕ) (a b d : DeskState) (before : IsTrue d.keeps → IsTrue b.keeps) where
  pub both_seen : (P : List ℕ → List ℕ → Type 0) → TakesBoth x y P a b → TakesBoth x y P (seen_from d a) (seen_from d b)
  both_seen P h = record { of_one = h.of_one; of_two = h.of_two; reached = reads_seen (both_taken x y h.of_one h.of_two) (λ v. refl) a b d h.reached; texts = λ _. told_seen a b d (λ t. P (t.left x) (t.left y)) before h.texts }

  neither_seen : (P : List ℕ → List ℕ → Type 0) → FailsBoth x y P a b → FailsBoth x y P (seen_from d a) (seen_from d b)
  neither_seen P h = record {
    of_one = h.of_one;
    of_two = h.of_two;
    fails = unread_seen (both_taken x y h.of_one h.of_two) (λ v. refl) a b d h.fails;
    told = λ _. told_seen a b d (λ t. P (take h.of_one (t.left x)) (take h.of_two (t.left y))) before h.told;
  }

pub both_stays : (x y : ℕ) (a b : DeskState) (P : List ℕ → List ℕ → Type 0) → TakesBoth x y P a b → Stays a b
both_stays x y a b P h = reads_stays (both_taken x y h.of_one h.of_two) (λ v. refl) a b h.reached

module _ (p : Problem) (x y : ℕ) (a b : DeskState) where
  pub checking_stays : (fault : CheckFault) → StopsCheck p x y a b fault → Stays a b
  checking_stays check.ReadFault h = unread_stays (both_taken x y h.of_one h.of_two) (λ v. refl) a b h.fails
  checking_stays check.NoMemory h = both_stays x y a b (λ c q. Unit {0}) h
  checking_stays (check.Refused file place e) h = both_stays x y a b (λ c q. Walk p c q (Err (check.Refused file place e))) h
  checking_stays (check.Limit file place which) h = both_stays x y a b (λ c q. Walk p c q (Err (check.Limit file place which))) h

  pub checking_seen : (fault : CheckFault) → StopsCheck p x y a b fault → StopsCheck p x y (seen_from b a) (seen_from b b) fault
  checking_seen check.ReadFault h = neither_seen x y a b b (λ k. k) (LeavesOpen p) h
  checking_seen check.NoMemory h = both_seen x y a b b (λ k. k) (λ c q. Unit {0}) h
  checking_seen (check.Refused file place e) h = both_seen x y a b b (λ k. k) (λ c q. Walk p c q (Err (check.Refused file place e))) h
  checking_seen (check.Limit file place which) h = both_seen x y a b b (λ k. k) (λ c q. Walk p c q (Err (check.Limit file place which))) h

-- ---- opening both

module _ (cnf proof : List ℕ) (a b : DeskState) where
  pub opening_stays : StopsOpening cnf proof a b → Stays a b
  opening_stays (no_cnf fails lacks) = unread_stays same (λ v. refl) a b fails
  opening_stays (no_proof fails lacks) = unread_stays (opened 1 cnf) (λ v. refl) a b fails

  pub opening_seen : StopsOpening cnf proof a b → StopsOpening cnf proof (seen_from b a) (seen_from b b)
  opening_seen (no_cnf fails lacks) = no_cnf (unread_seen same (λ v. refl) a b b fails) (steady_seen a b (λ (v : View). IsSomeAnd v.told (λ t. IsNone (t.shelf cnf))) lacks)
  opening_seen (no_proof fails lacks) = no_proof (unread_seen (opened 1 cnf) (λ v. refl) a b b fails) (steady_seen a b (λ (v : View). IsSomeAnd v.told (λ t. IsNone (t.shelf proof))) lacks)

-- the problem's text, seen from a later state
pub read_seen : (w : CheckWords) (p : Problem) (a d e : DeskState) → (IsTrue e.keeps → IsTrue d.keeps) → IsOpened w p a d → HasText w.opb (λ text. Denotes w.bound text p) (seen_from e a)
read_seen w p a d e before h = told_seen a h.between e (λ t. (text : List ℕ) × (t.shelf w.opb ≡ Some text) × Denotes w.bound text p) (λ k. h.reached.kept (before k)) h.read.denotes

pub opened_seen : (w : CheckWords) (p : Problem) (a d e : DeskState) → (IsTrue e.keeps → IsTrue d.keeps) → IsOpened w p a d → IsOpened w p (seen_from e a) (seen_from e d)
opened_seen w p a d e before h = record {
  between = seen_from e h.between;
  read = record {
    fetched = fetched_seen 0 w.opb a h.between e h.read.fetched;
    denotes = λ _. read_seen w p a d e before h;
  };
  reached = reads_seen (opened_both w.cnf w.proof) (λ v. refl) h.between d e h.reached;
  cnf_begun = h.cnf_begun;
  proof_begun = h.proof_begun;
  found = λ _. told_seen d d e (HasBoth w.cnf w.proof) before h.found;
}

-- ---- a refutation

module _ (vars : ℕ) (clauses : List (List Lit)) (a b : DeskState) where
  pub lrat_stays : (fault : RefuteFault) → StopsRefuting vars clauses 3 a b fault → Stays a b
  lrat_stays refute.Failed h = unread_stays (taken 3 h.count) (λ v. refl) a b h.fails
  lrat_stays refute.NoMemory h = takes_stays 3 a b (λ text. Unit {0}) h
  lrat_stays (refute.Token place e) h = takes_stays 3 a b (λ text. lrat_walk vars clauses text ≡ ending.refused place e) h
  lrat_stays (refute.Limit place which) h = takes_stays 3 a b (λ text. lrat_walk vars clauses text ≡ ending.limited place which) h
  lrat_stays (refute.NotRefuted line why) h = takes_stays 3 a b (λ text. lrat_walk vars clauses text ≡ ending.not_refuted line why) h

  lrat_seen : (fault : RefuteFault) → StopsRefuting vars clauses 3 a b fault → StopsRefuting vars clauses 3 (seen_from b a) (seen_from b b) fault
  lrat_seen refute.Failed h = ahead_seen 3 a b (TakesEnded (started vars clauses)) h
  lrat_seen refute.NoMemory h = takes_seen 3 a b (λ text. Unit {0}) h
  lrat_seen (refute.Token place e) h = takes_seen 3 a b (λ text. lrat_walk vars clauses text ≡ ending.refused place e) h
  lrat_seen (refute.Limit place which) h = takes_seen 3 a b (λ text. lrat_walk vars clauses text ≡ ending.limited place which) h
  lrat_seen (refute.NotRefuted line why) h = takes_seen 3 a b (λ text. lrat_walk vars clauses text ≡ ending.not_refuted line why) h

module _ (vars : ℕ) (clauses : List (List Lit)) (lrat line : List ℕ) (a e : DeskState) where
  pub following_stays : (answer : Outcome) → EndsFollowing vars clauses lrat line a e answer → Stays a e
  following_stays _ (not_opened fails lacks) = unread_stays same (λ v. refl) a e fails
  following_stays _ (stopped between reached found fault stops steady) = stays_then a between e (reads_stays (opened 3 lrat) (λ v. refl) a between reached) (lrat_stays vars clauses between e fault stops)
  following_stays _ (said between after answer reached found takes tells ends) =
      stays_then a between e (reads_stays (opened 3 lrat) (λ v. refl) a between reached)
      (stays_then between after e (takes_stays 3 between after (λ text. lrat_walk vars clauses text ≡ ending.refuted) takes) (said_stays line after e answer ends))

  following_seen : (answer : Outcome) → EndsFollowing vars clauses lrat line a e answer → EndsFollowing vars clauses lrat line (seen_from e a) (seen_from e e) answer
  following_seen _ (not_opened fails lacks) = not_opened (unread_seen same (λ v. refl) a e e fails) (steady_seen a e (λ (v : View). IsSomeAnd v.told (λ t. IsNone (t.shelf lrat))) lacks)
  following_seen _ (stopped between reached found fault stops steady) =
      stopped (seen_from e between) (reads_seen (opened 3 lrat) (λ v. refl) a between e reached) (λ _. told_seen a between e (λ t. IsSome (t.shelf lrat)) (lrat_stays vars clauses between e fault stops).kept found) fault
      (lrat_seen vars clauses between e fault stops) (λ s. steady (steady_was between e s))
  following_seen _ (said between after answer reached found takes tells ends) =
      let kept = (said_stays line after e answer ends).kept in
      said (seen_from e between) (seen_from e after) answer (reads_seen (opened 3 lrat) (λ v. refl) a between e reached) (λ _. told_seen a between e (λ t. IsSome (t.shelf lrat)) (λ k. takes.takes.reached.kept (kept k)) found)
      (takes_on 3 between after e kept (λ text. lrat_walk vars clauses text ≡ ending.refuted) takes) (telling_desk after e tells) (saying_seen line after e answer ends)

module _ (p : Problem) (lrat line : List ℕ) (d e : DeskState) where
  pub refuting_stays : (answer : Outcome) → EndsRefuting p lrat line d e answer → Stays d e
  refuting_stays _ (unchecked_so fault stops names steady) = checking_stays p 1 2 d e fault stops
  refuting_stays _ (rejected number denied takes) = both_stays 1 2 d e (λ c q. Walk p c q (Ok (Rejected number denied))) takes
  refuting_stays _ (accepted_then between vars clauses answer takes says ends) =
      stays_then d between e (both_stays 1 2 d between (λ c q. Walk p c q (Ok Accepted)) takes) (following_stays vars clauses lrat line between e answer ends)

  pub refuting_seen : (answer : Outcome) → EndsRefuting p lrat line d e answer → EndsRefuting p lrat line (seen_from e d) (seen_from e e) answer
  refuting_seen _ (unchecked_so fault stops names steady) = unchecked_so fault (checking_seen p 1 2 d e fault stops) names (λ s. steady (steady_was d e s))
  refuting_seen _ (rejected number denied takes) = rejected number denied (both_seen 1 2 d e e (λ k. k) (λ c q. Walk p c q (Ok (Rejected number denied))) takes)
  refuting_seen _ (accepted_then between vars clauses answer takes says ends) =
      let kept = (following_stays vars clauses lrat line between e answer ends).kept in
      accepted_then (seen_from e between) vars clauses answer (both_seen 1 2 d between e kept (λ c q. Walk p c q (Ok Accepted)) takes) (λ _. told_seen d between e (λ t. SaysClauses (t.left 1) vars clauses) kept says)
      (following_seen vars clauses lrat line between e answer ends)
