-- How checking and refuting by texts end, from how the commands do over a desk that has just these.
use Rattle.std.specs.Prelude.{codes}
use Rattle.std.proofs.Common.{◌≡◌, ◌≤◌, ◌∙◌, [], ℕ, Bool, List, Option, Some, None, Ok, ap, arith, inl, inr, length, refl, subst, sym}
use Rattle.pb_base.specs.declared.problem.Problem.{Problem}
use Rattle.pb_base.specs.Problems.{IsSolution}
use Rattle.pb_check.specs.declared.verdict.Verdict.TheVariants.{Accepted}
use Rattle.pb_check.specs.KeptClauses.{SaysClauses}
use Rattle.pb_check.specs.Turns.{Answer}
use Rattle.pb_check.specs.Walk.{Walk}
use Rattle.pb_check.proofs.Extending.{accepted_cnf_extends}
use Rattle.pb_lrat.specs.LratWalk.{LratEnding, lrat_walk}
use Rattle.pb_lrat.specs.LratWalk.{LratEnding as ending}
use Rattle.pb_desk.specs.declared.shelf.Named.{Named}
use Rattle.pb_desk.specs.Memory.{shelf_of}
use Rattle.pb_words.specs.CheckWords.{CheckWords}
use Rattle.pb_words.specs.RefuteWords.{RefuteWords}
use Rattle.pb_suite.specs.declared.outcome.Outcome.{Outcome}
use Rattle.pb_suite.specs.declared.outcome.Outcome.TheVariants as outcome
use Rattle.pb_suite.specs.CheckSpec.{check_spec, StopsCheck}
use Rattle.pb_suite.specs.CheckSpec.{IsJudged as IsJudgedOn}
use Rattle.pb_suite.specs.CheckSpec.StopsCheck.{unread, lacking, token as token_on, limit as limit_on, denial as denial_on}
use Rattle.pb_suite.specs.CommandSpec.{Shelf}
use Rattle.pb_suite.specs.Denoted.{Denotes}
use Rattle.pb_suite.specs.Headline.{HasNoSolution}
use Rattle.pb_suite.specs.InMemory.{AnswersInMemory, Overflows}
use Rattle.pb_suite.specs.InMemory.AnswersInMemory.{done, refused, read_fault, write_fault, no_memory as wanting}
use Rattle.pb_suite.specs.InMemory.Overflows.{long_name, long_file, long_words}
use Rattle.pb_suite.specs.Outputs.{only_words, Output}
use Rattle.pb_suite.specs.Refusals.{RefusesOpb}
use Rattle.pb_suite.specs.Refusals.IsUnread.{lacks, refuses}
use Rattle.pb_suite.specs.RefuteSpec.{refute_spec, StopsRefute}
use Rattle.pb_suite.specs.RefuteSpec.{IsFollowed as IsFollowedOn}
use Rattle.pb_suite.specs.RefuteSpec.StopsRefute.{unchecked as unchecked_on, lacking as lacking_lrat, token as lrat_token_on, limit as lrat_limit_on, no_refutation}
use Rattle.pb_suite.proofs.DenotedProblems.{denotes_one, denotes_within}
use Rattle.pbcnf_c.specs.Checks.{Checks, IsAccepted, IsFollowed, IsJudged, IsRefuted, Refutes, StopsChecking}
use Rattle.pbcnf_c.specs.Checks.StopsChecking.{bad_problem, token, limit, denial}
use Rattle.pbcnf_c.specs.Checks.Checks.{accepted, stopped, no_memory}
use Rattle.pbcnf_c.specs.inner.Shelves.{checked_texts, refuted_texts}
use Rattle.pbcnf_c.specs.Checks.Refutes.{refuted, unchecked, token as lrat_token, limit as lrat_limit, denial as lrat_denial, no_memory as refute_no_memory}

abbrev given : Option (List ℕ) → List ℕ
given None = []
given (Some xs) = xs

-- what stands on the shelf is the one text that stands there
same_text : (o : Option (List ℕ)) (x y : List ℕ) → o ≡ Some x → o ≡ Some y → x ≡ y
same_text o x y here there = ap given (sym here ∙ there)

-- a short line needs little room
no_overflow : (line : List ℕ) (most : ℕ) (out : Output) → length line ≤ most → out ≡ only_words line → Overflows most out → ⊥
no_overflow line most out few is over = by_cases (subst (Overflows most) is over)
  where
    by_cases : Overflows most (only_words line) → ⊥
    by_cases (long_name file has long) = omega (arith, has.1)
    by_cases (long_file file has long) = omega (arith, has.1)
    by_cases (long_words long) = omega (arith, few, long)

module _ (w : CheckWords) (shelf : Shelf) (opb cnf proof : List ℕ) (has_opb : shelf w.opb ≡ Some opb) (has_cnf : shelf w.cnf ≡ Some cnf) (has_proof : shelf w.proof ≡ Some proof) where
  denotes_here : (text : List ℕ) (p : Problem) → shelf w.opb ≡ Some text → Denotes w.bound text p → Denotes w.bound opb p
  denotes_here text p there denotes = subst (λ (t : List ℕ). Denotes w.bound t p) (same_text (shelf w.opb) text opb there has_opb) denotes

  walks_here : (p : Problem) (c d : List ℕ) (answer : Answer) → shelf w.cnf ≡ Some c → shelf w.proof ≡ Some d → Walk p c d answer → Walk p cnf proof answer
  walks_here p c d answer there behind walks =
      subst (λ (t : List ℕ). Walk p t proof answer) (same_text (shelf w.cnf) c cnf there has_cnf)
      (subst (λ (t : List ℕ). Walk p c t answer) (same_text (shelf w.proof) d proof behind has_proof) walks)

  judged_here : (answer : Answer) → IsJudgedOn shelf w answer → IsJudged w.bound opb cnf proof answer
  judged_here answer on = record {
    problem = on.problem;
    denotes = denotes_here on.denoted.text on.problem on.denoted.on_shelf on.denoted.denotes;
    judged = walks_here on.problem on.cnf on.proof answer on.has_cnf on.has_proof on.judged;
  }

  pub accepted_here : IsJudgedOn shelf w (Ok Accepted) → IsAccepted w.bound opb cnf proof
  accepted_here on =
      let here = judged_here (Ok Accepted) on in
      record {
        problem = here.problem;
        denotes = here.denotes;
        accepted = here.judged;
        extends = accepted_cnf_extends here.problem cnf proof (denotes_within w.bound opb here.problem here.denotes).products here.judged;
      }

  pub stops_here : (answer : Outcome) → StopsCheck shelf w answer → StopsChecking w.bound opb cnf proof answer
  stops_here _ (unread _ (lacks none)) = cc
  stops_here _ (unread _ (refuses text answer there refusal)) = bad_problem answer (subst (λ (t : List ℕ). RefusesOpb w.bound t answer) (same_text (shelf w.opb) text opb there has_opb) refusal)
  stops_here _ (lacking p denoted (inl none)) = cc
  stops_here _ (lacking p denoted (inr none)) = cc
  stops_here _ (token_on file place e judged) = token file place e (judged_here _ judged)
  stops_here _ (limit_on file place which judged) = limit file place which (judged_here _ judged)
  stops_here _ (denial_on line denied judged) = denial line denied (judged_here _ judged)

  pub checked : (most : ℕ) (answer : Outcome) → 9 ≤ most → AnswersInMemory (check_spec w) shelf most answer → Checks w.bound opb cnf proof answer
  checked most _ few (done out due fits) = accepted (accepted_here due.0)
  checked most _ few (refused answer is stops) = stopped answer (stops_here answer stops)
  checked most _ few (read_fault text among none stops) = stopped outcome.ReadFault (stops_here outcome.ReadFault stops)
  checked most _ few (write_fault out due over) = absurd (no_overflow (codes "accepted\n") most out few due.1 over)
  checked most _ few wanting = no_memory

module _ (w : RefuteWords) (shelf : Shelf) (opb cnf proof lrat : List ℕ) (has_opb : shelf w.checked.opb ≡ Some opb) (has_cnf : shelf w.checked.cnf ≡ Some cnf) (has_proof : shelf w.checked.proof ≡ Some proof) (has_lrat : shelf w.lrat ≡ Some lrat) where
  followed_here : (end : LratEnding) → IsFollowedOn shelf w end → IsFollowed w.checked.bound opb cnf proof lrat end
  followed_here end on =
      let judged = on.accepted.judged in
      record {
        vars = on.vars;
        clauses = on.clauses;
        accepted = accepted_here w.checked shelf opb cnf proof has_opb has_cnf has_proof judged;
        says_all = subst (λ (t : List ℕ). SaysClauses t on.vars on.clauses) (same_text (shelf w.checked.cnf) judged.cnf cnf judged.has_cnf has_cnf) on.accepted.says_all;
        ends = subst (λ (t : List ℕ). lrat_walk on.vars on.clauses t ≡ end) (same_text (shelf w.lrat) on.lrat lrat on.has_lrat has_lrat) on.ends;
      }

  none_here : (p : Problem) → Denotes w.checked.bound opb p → HasNoSolution w shelf → (values : List Bool) → ¬ IsSolution p values
  none_here p denotes unsolved values solution =
      let there = subst (λ (t : List ℕ). Denotes w.checked.bound t unsolved.problem) (same_text (shelf w.checked.opb) unsolved.denoted.text opb unsolved.denoted.on_shelf has_opb) unsolved.denoted.denotes in
      unsolved.none values (subst (λ (q : Problem). IsSolution q values) (denotes_one w.checked.bound opb p unsolved.problem denotes there) solution)

  refuted_here : IsFollowedOn shelf w ending.refuted → HasNoSolution w shelf → IsRefuted w.checked.bound opb cnf proof lrat
  refuted_here on unsolved =
      let here = followed_here ending.refuted on in
      record { followed = here; none = none_here here.accepted.problem here.accepted.denotes unsolved }

  refute_stops : (answer : Outcome) → StopsRefute shelf w answer → Refutes w.checked.bound opb cnf proof lrat answer
  refute_stops _ (unchecked_on answer stops) = unchecked answer (stops_here w.checked shelf opb cnf proof has_opb has_cnf has_proof answer stops)
  refute_stops _ (lacking_lrat vars clauses before none) = cc
  refute_stops _ (lrat_token_on place e followed) = lrat_token place e (followed_here _ followed)
  refute_stops _ (lrat_limit_on place which followed) = lrat_limit place which (followed_here _ followed)
  refute_stops _ (no_refutation line why followed) = lrat_denial line why (followed_here _ followed)

  pub refutes : (most : ℕ) (answer : Outcome) → 8 ≤ most → (answer ≡ outcome.Done → HasNoSolution w shelf) → AnswersInMemory (refute_spec w) shelf most answer → Refutes w.checked.bound opb cnf proof lrat answer
  refutes most _ few unsolved (done out due fits) = refuted (refuted_here due.0 (unsolved refl))
  refutes most _ few unsolved (refused answer is stops) = refute_stops answer stops
  refutes most _ few unsolved (read_fault text among none stops) = refute_stops outcome.ReadFault stops
  refutes most _ few unsolved (write_fault out due over) = absurd (no_overflow (codes "refuted\n") most out few due.1 over)
  refutes most _ few unsolved wanting = refute_no_memory

-- ---- over the files that the calls make

at : (files due : List Named) (name said text : List ℕ) → files ≡ due → said ≡ name → shelf_of due name ≡ Some text → shelf_of files said ≡ Some text
at files due name said text are is here = ap (λ (fs : List Named). shelf_of fs said) are ∙ ap (shelf_of due) is ∙ here

pub checked_files : (w : CheckWords) (files : List Named) (opb cnf proof : List ℕ) (answer : Outcome) → files ≡ checked_texts opb cnf proof → w.opb ≡ codes "opb" → w.cnf ≡ codes "cnf" → w.proof ≡ codes "proof" → AnswersInMemory (check_spec w) (shelf_of files) 16 answer → Checks w.bound opb cnf proof answer
checked_files w files opb cnf proof answer are has_opb has_cnf has_proof answers =
    let due = checked_texts opb cnf proof in
    checked w (shelf_of files) opb cnf proof (at files due (codes "opb") w.opb opb are has_opb refl) (at files due (codes "cnf") w.cnf cnf are has_cnf refl) (at files due (codes "proof") w.proof proof are has_proof refl) 16 answer (omega arith) answers

pub refuted_files : (w : RefuteWords) (files : List Named) (opb cnf proof lrat : List ℕ) (answer : Outcome) → files ≡ refuted_texts opb cnf proof lrat → w.checked.opb ≡ codes "opb" → w.checked.cnf ≡ codes "cnf" → w.checked.proof ≡ codes "proof" → w.lrat ≡ codes "lrat" → (answer ≡ outcome.Done → HasNoSolution w (shelf_of files)) → AnswersInMemory (refute_spec w) (shelf_of files) 16 answer → Refutes w.checked.bound opb cnf proof lrat answer
refuted_files w files opb cnf proof lrat answer are has_opb has_cnf has_proof has_lrat unsolved answers =
    let due = refuted_texts opb cnf proof lrat in
    refutes w (shelf_of files) opb cnf proof lrat (at files due (codes "opb") w.checked.opb opb are has_opb refl) (at files due (codes "cnf") w.checked.cnf cnf are has_cnf refl) (at files due (codes "proof") w.checked.proof proof are has_proof refl) (at files due (codes "lrat") w.lrat lrat are has_lrat refl) 16 answer (omega arith) unsolved answers
