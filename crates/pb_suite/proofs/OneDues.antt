-- No command is to do two things.
use Rattle.std.proofs.Common.{◌≡◌, ◌≢◌, ◌∙◌, ℕ, List, [], Some, None, Ok, Err, Option, ap, codes, inl, inr, refl, subst, sym, ◌++◌, ℤ}
use Rattle.std.specs.Prelude.{◌⊎◌}
use Rattle.pb_base.specs.declared.limit.LimitKind.{LimitKind}
use Rattle.pb_base.specs.declared.literal.Lit.{Lit}
use Rattle.pb_base.specs.declared.file.File.TheVariants.{Lrat}
use Rattle.pb_base.specs.declared.problem.Problem.{Problem}
use Rattle.pb_check.proofs.Answering.{walk_has_one_answer}
use Rattle.pb_check.specs.KeptClauses.{SaysClauses}
use Rattle.pb_check.specs.Turns.{Answer}
use Rattle.pb_check.specs.Walk.{Walk}
use Rattle.pb_check.specs.declared.verdict.CheckFault.TheVariants as fault
use Rattle.pb_check.specs.declared.verdict.Verdict.TheVariants.{Accepted, Rejected}
use Rattle.pb_base.specs.Defaults.{default_options}
use Rattle.pb_dimacs.specs.CnfWhole.{told_of}
use Rattle.pb_dimacs.specs.CnfWhole.CnfTold.{says}
use Rattle.pb_dimacs.specs.declared.head.CnfHead.{CnfHead}
use Rattle.pb_desk.specs.View.{Made}
use Rattle.pb_base.specs.declared.options.Options.{Options}
use Rattle.pb_encode.specs.Summaries.{IsEncodable, IsOver}
use Rattle.pb_family.specs.ClauseText.{clause_text}
use Rattle.pb_gen.specs.Generated.{generated}
use Rattle.pb_lrat.specs.LratWalk.{LratEnding, lrat_walk}
use Rattle.pb_lrat.specs.LratWalk.{LratEnding as ending}
use Rattle.pb_model.specs.declared.decoding.Decoded.{Decoded}
use Rattle.pb_model.specs.declared.decoding.Decoded.TheVariants as decoded
use Rattle.pb_model.specs.declared.model.Model.{Model}
use Rattle.pb_model.specs.Decoding.{IsDecoded, assignment_of}
use Rattle.pb_model.specs.MapText.{map_text}
use Rattle.pb_model.specs.SolutionText.{solution_text}
use Rattle.pb_opb.proofs.Reading.{says_one}
use Rattle.pb_opb.specs.Faults.{Reads}
use Rattle.pb_words.specs.BenchWords.{BenchWords}
use Rattle.pb_words.specs.CheckWords.{CheckWords}
use Rattle.pb_words.specs.DecodeWords.{DecodeWords}
use Rattle.pb_words.specs.EncodeWords.{EncodeWords}
use Rattle.pb_words.specs.MapWords.{MapWords}
use Rattle.pb_words.specs.ProbeWords.{ProbeWords}
use Rattle.pb_words.specs.RefuteWords.{RefuteWords}
use Rattle.pb_words.specs.WcnfWords.{WcnfWords}
use Rattle.pb_suite.specs.declared.outcome.Outcome.{Outcome}
use Rattle.pb_suite.specs.declared.outcome.Outcome.TheVariants as outcome
use Rattle.pb_suite.specs.OneDue.{SpecifiesOne}
use Rattle.pb_suite.specs.Outputs.{only_words, Output}
use Rattle.pb_suite.specs.CommandSpec.{Shelf}
use Rattle.pb_suite.specs.BenchSpec.{bench_output, bench_spec}
use Rattle.pb_suite.specs.CheckSpec.{check_spec, IsJudged, StopsCheck}
use Rattle.pb_suite.specs.CheckSpec.StopsCheck.{unread as no_problem, lacking, token, limit, denial}
use Rattle.pb_suite.specs.DecodeSpec.{decode_spec, ComesTo, IsAnswered, StopsDecode}
use Rattle.pb_suite.specs.DecodeSpec.StopsDecode.{unread as decode_no_problem, unanswered, no_model, violated}
use Rattle.pb_suite.specs.Derivations.{Derivations}
use Rattle.pb_suite.specs.EncodeSpec.{encoded_output, names_in, encode_spec, PassesLimit, StopsEncode}
use Rattle.pb_suite.specs.EncodeSpec.PassesLimit.{over}
use Rattle.pb_suite.specs.MapSpec.{map_spec}
use Rattle.pb_suite.specs.ProbeSpec.{probe_spec, IsProbed, SaysOfLits}
use Rattle.pb_suite.specs.ProbeSpec.SaysOfLits.{conflict, fixed}
use Rattle.pb_suite.specs.RefuteSpec.{refute_spec, IsAccepted, IsFollowed, StopsRefute}
use Rattle.pb_suite.specs.RefuteSpec.StopsRefute.{unchecked, lacking as refute_lacking, token as refute_token, limit as refute_limit, no_refutation}
use Rattle.pb_suite.specs.WcnfSpec.{wcnf_spec, weighted_output}
use Rattle.pb_suite.specs.Denoted.{IsDenoted}
use Rattle.pb_suite.specs.Refusals.{IsUnread, RefusesCnf, RefusesModel, RefusesOpb}
use Rattle.pb_suite.specs.Refusals.RefusesCnf.{token as cnf_token, limit as cnf_limit}
use Rattle.pb_unit.specs.Reached.{AreReached}
use Rattle.pb_suite.proofs.Decodes.{model_refuses_none, none_violated, same_posed, same_told}
use Rattle.pb_suite.proofs.OneTexts.{ascending_one, cnf_one, model_one, opb_one, over_no, over_one, violated_one}
use Rattle.pb_suite.proofs.Unread.{not_none, same_some, unread_one, unread_posed, unread_read}

-- ---- a problem that is encoded

module _ (o : Options) (IsAsked : Problem → Type 0) (one_posed : (p q : Problem) → IsAsked p → IsAsked q → p ≡ q) where
  too_large_one : (a b : Outcome) → PassesLimit o IsAsked a → PassesLimit o IsAsked b → a ≡ b
  too_large_one _ _ (over p which posed large) (over q other posed' large') =
      ap (λ (k : LimitKind). outcome.Limit None k None) (over_one o p which other large (subst (λ (r : Problem). IsOver other o r) (one_posed q p posed' posed) large'))

  too_large_no : (p : Problem) (answer : Outcome) → IsAsked p → IsEncodable o p → PassesLimit o IsAsked answer → ⊥
  too_large_no p _ posed encodable (over q which posed' large) = over_no o p which encodable (subst (λ (r : Problem). IsOver which o r) (one_posed q p posed' posed) large)

-- ---- a problem that is read and encoded

module _ (shelf : Shelf) (opb : List ℕ) (bound : Option ℤ) (o : Options) where
  not_large : (a b : Outcome) → IsUnread shelf opb (RefusesOpb bound) a → PassesLimit o (IsDenoted shelf opb bound) b → ⊥
  not_large a _ h (over p which denoted large) = unread_posed shelf opb bound p a h denoted

  encode_ways : (a b : Outcome) → StopsEncode shelf opb bound o a → StopsEncode shelf opb bound o b → a ≡ b
  encode_ways a b (inl h) (inl k) = unread_one shelf opb (RefusesOpb bound) (opb_one bound) a b h k
  encode_ways a b (inl h) (inr k) = absurd (not_large a b h k)
  encode_ways a b (inr h) (inl k) = absurd (not_large b a k h)
  encode_ways a b (inr h) (inr k) = too_large_one o (IsDenoted shelf opb bound) (same_posed shelf opb bound) a b h k

  encode_both : (p : Problem) (answer : Outcome) → IsDenoted shelf opb bound p → IsEncodable o p → StopsEncode shelf opb bound o answer → ⊥
  encode_both p answer denoted encodable (inl h) = unread_posed shelf opb bound p answer h denoted
  encode_both p answer denoted encodable (inr h) = too_large_no o (IsDenoted shelf opb bound) (same_posed shelf opb bound) p answer denoted encodable h

pub one_encode : (derive : Derivations) (w : EncodeWords) (shelf : Shelf) → SpecifiesOne (encode_spec derive w) shelf
one_encode derive w shelf = record {
  one_output = λ out other (p, denoted, encodable, is) (q, posed', encodable', is').
      is ∙ ap (λ (r : Problem). encoded_output derive (names_in w) w.options r) (same_posed shelf w.opb w.bound p q denoted posed') ∙ sym is';
  one_stop = encode_ways shelf w.opb w.bound w.options;
  not_both = λ out answer (p, denoted, encodable, is) h. encode_both shelf w.opb w.bound w.options p answer denoted encodable h;
}

pub one_wcnf : (w : WcnfWords) (shelf : Shelf) → SpecifiesOne (wcnf_spec w) shelf
one_wcnf w shelf = record {
  one_output = λ out other (p, denoted, encodable, is) (q, posed', encodable', is').
      is ∙ ap (λ (r : Problem). weighted_output w.wcnf w.options r) (same_posed shelf w.opb w.bound p q denoted posed') ∙ sym is';
  one_stop = encode_ways shelf w.opb w.bound w.options;
  not_both = λ out answer (p, denoted, encodable, is) h. encode_both shelf w.opb w.bound w.options p answer denoted encodable h;
}

-- ---- map

pub one_map : (w : MapWords) (shelf : Shelf) → SpecifiesOne (map_spec w) shelf
one_map w shelf = record {
  one_output = λ out other (p, denoted, is) (q, posed', is'). is ∙ ap (λ (r : Problem). only_words (map_text r)) (same_posed shelf w.opb None p q denoted posed') ∙ sym is';
  one_stop = unread_one shelf w.opb (RefusesOpb None) (opb_one None);
  not_both = λ out answer (p, denoted, is) h. unread_posed shelf w.opb None p answer h denoted;
}

-- ---- bench

module _ (w : BenchWords) where
  bench_same : (p q : Problem) → Reads (generated w.count w.seed) p → Reads (generated w.count w.seed) q → p ≡ q
  bench_same p q reads reads' = says_one (generated w.count w.seed) p q reads.says reads'.says

  pub one_bench : (shelf : Shelf) → SpecifiesOne (bench_spec w) shelf
  one_bench shelf = record {
    one_output = λ out other (p, reads, encodable, is) (q, reads', encodable', is'). is ∙ ap (bench_output w.cnf) (bench_same p q reads reads') ∙ sym is';
    one_stop = too_large_one default_options (Reads (generated w.count w.seed)) bench_same;
    not_both = λ out answer (p, reads, encodable, is) h. too_large_no default_options (Reads (generated w.count w.seed)) bench_same p answer reads encodable h;
  }

-- ---- probe

module _ (w : ProbeWords) (shelf : Shelf) where
  unrefused : (text : List ℕ) (head : CnfHead) (clauses : List (List Lit)) (answer : Outcome) → told_of text ≡ says head clauses → RefusesCnf text answer → ⊥
  unrefused text head clauses _ told (cnf_token place e first) = let no = sym told ∙ first in cc
  unrefused text head clauses _ told (cnf_limit place which first) = let no = sym told ∙ first in cc

  probe_both : (line : List ℕ) (answer : Outcome) → IsProbed shelf w line → IsUnread shelf w.cnf RefusesCnf answer → ⊥
  probe_both line answer found h = unread_read shelf w.cnf found.text RefusesCnf answer found.on_shelf (unrefused found.text found.head found.clauses answer found.told) h

  reached_one : (clauses : List (List Lit)) (given xs ys : List Lit) → AreReached clauses given xs → AreReached clauses given ys → xs ≡ ys
  reached_one clauses given xs ys first second = ascending_one xs ys first.ascending second.ascending (λ l h. (second.exact l).1 ((first.exact l).0 h)) (λ l h. (first.exact l).1 ((second.exact l).0 h))

  line_one : (clauses : List (List Lit)) (given : List Lit) (a b : List ℕ) → SaysOfLits clauses given a → SaysOfLits clauses given b → a ≡ b
  line_one clauses given _ _ (conflict h) (conflict k) = refl
  line_one clauses given _ _ (conflict h) (fixed ls reached) = absurd (reached.no_conflict h)
  line_one clauses given _ _ (fixed ls reached) (conflict h) = absurd (reached.no_conflict h)
  line_one clauses given _ _ (fixed ls reached) (fixed ks reached') = ap (λ (ls : List Lit). codes "fixed " ++ clause_text ls) (reached_one clauses given ls ks reached reached')

  probed_one : (a b : List ℕ) → IsProbed shelf w a → IsProbed shelf w b → a ≡ b
  probed_one a b found other =
      let text = same_some (shelf w.cnf) other.text found.text other.on_shelf found.on_shelf in
      let told : says other.head other.clauses ≡ says found.head found.clauses = sym other.told ∙ ap told_of text ∙ found.told in
      let clauses : other.clauses ≡ found.clauses = cc in
      line_one found.clauses w.lits a b found.of_lits (subst (λ (cs : List (List Lit)). SaysOfLits cs w.lits b) clauses other.of_lits)

  abbrev output_of : List Made → List ℕ → Output
  output_of files line = record { made = files; said = line }

  output_one : (out other : Output) → out.made ≡ [] → other.made ≡ [] → out.said ≡ other.said → out ≡ other
  output_one out other none none' said = ap (λ (files : List Made). output_of files out.said) (none ∙ sym none') ∙ ap (output_of other.made) said

  pub one_probe : SpecifiesOne (probe_spec w) shelf
  one_probe = record {
    one_output = λ out other h k. output_one out other h.0 k.0 (probed_one out.said other.said h.1 k.1);
    one_stop = unread_one shelf w.cnf RefusesCnf cnf_one;
    not_both = λ out answer h k. probe_both out.said answer h.1 k;
  }

-- ---- check

-- the outcome of what going through both texts answers
abbrev verdict : Answer → Outcome
verdict (Err (fault.Refused file place e)) = outcome.Refused file place e
verdict (Err (fault.Limit file place which)) = outcome.Limit (Some file) which place
verdict (Err fault.ReadFault) = outcome.ReadFault
verdict (Err fault.NoMemory) = outcome.NoMemory
verdict (Ok Accepted) = outcome.Done
verdict (Ok (Rejected line denied)) = outcome.Rejected line denied

module _ (w : CheckWords) (shelf : Shelf) where
  data CheckStops (answer : Outcome) : Type 0 where
    unread : IsUnread shelf w.opb (RefusesOpb w.bound) answer → CheckStops answer
    lacks_other : (p : Problem) → IsDenoted shelf w.opb w.bound p → (shelf w.cnf ≡ None) ⊎ (shelf w.proof ≡ None) → answer ≡ outcome.ReadFault → CheckStops answer
    judged : (end : Answer) → IsJudged shelf w end → end ≢ Ok Accepted → answer ≡ verdict end → CheckStops answer

  check_way : (answer : Outcome) → StopsCheck shelf w answer → CheckStops answer
  check_way answer (no_problem _ is) = unread is
  check_way _ (lacking p denoted none) = lacks_other p denoted none refl
  check_way _ (token file place e found) = judged _ found (λ e. cc) refl
  check_way _ (limit file place which found) = judged _ found (λ e. cc) refl
  check_way _ (denial line denied found) = judged _ found (λ e. cc) refl

  judged_same : (a b : Answer) → IsJudged shelf w a → IsJudged shelf w b → a ≡ b
  judged_same a b found other =
      let p = same_posed shelf w.opb w.bound other.problem found.problem other.denoted found.denoted in
      let cnf = same_some (shelf w.cnf) other.cnf found.cnf other.has_cnf found.has_cnf in
      let proof = same_some (shelf w.proof) other.proof found.proof other.has_proof found.has_proof in
      walk_has_one_answer.only found.problem found.cnf found.proof a b found.judged
      (subst (λ (r : Problem). Walk r found.cnf found.proof b) p (subst (λ (xs : List ℕ). Walk other.problem xs found.proof b) cnf (subst (λ (xs : List ℕ). Walk other.problem other.cnf xs b) proof other.judged)))

  judged_there : (a : Answer) → IsJudged shelf w a → (shelf w.cnf ≡ None) ⊎ (shelf w.proof ≡ None) → ⊥
  judged_there a found (inl none) = not_none (shelf w.cnf) found.cnf found.has_cnf none
  judged_there a found (inr none) = not_none (shelf w.proof) found.proof found.has_proof none

  check_ways : (a b : Outcome) → CheckStops a → CheckStops b → a ≡ b
  check_ways a b (unread h) (unread k) = unread_one shelf w.opb (RefusesOpb w.bound) (opb_one w.bound) a b h k
  check_ways a b (unread h) (lacks_other p denoted none is) = absurd (unread_posed shelf w.opb w.bound p a h denoted)
  check_ways a b (unread h) (judged end found not is) = absurd (unread_posed shelf w.opb w.bound found.problem a h found.denoted)
  check_ways a b (lacks_other p denoted none is) (unread h) = absurd (unread_posed shelf w.opb w.bound p b h denoted)
  check_ways a b (lacks_other p denoted none is) (lacks_other q posed' none' is') = is ∙ sym is'
  check_ways a b (lacks_other p denoted none is) (judged end found not is') = absurd (judged_there end found none)
  check_ways a b (judged end found not is) (unread h) = absurd (unread_posed shelf w.opb w.bound found.problem b h found.denoted)
  check_ways a b (judged end found not is) (lacks_other p denoted none is') = absurd (judged_there end found none)
  check_ways a b (judged end found not is) (judged other found' not' is') = is ∙ ap verdict (judged_same end other found found') ∙ sym is'

  check_both : (answer : Outcome) → IsJudged shelf w (Ok Accepted) → CheckStops answer → ⊥
  check_both answer found (unread h) = unread_posed shelf w.opb w.bound found.problem answer h found.denoted
  check_both answer found (lacks_other p denoted none is) = judged_there (Ok Accepted) found none
  check_both answer found (judged end found' not is) = not (judged_same end (Ok Accepted) found' found)

  pub one_check : SpecifiesOne (check_spec w) shelf
  one_check = record {
    one_output = λ out other (found, is) (found', is'). is ∙ sym is';
    one_stop = λ a b h k. check_ways a b (check_way a h) (check_way b k);
    not_both = λ out answer (found, is) h. check_both answer found (check_way answer h);
  }

-- ---- refute

-- the outcome of how the last text ends
abbrev ending_outcome : LratEnding → Outcome
ending_outcome ending.refuted = outcome.Done
ending_outcome (ending.refused place e) = outcome.Refused Lrat place e
ending_outcome (ending.limited place which) = outcome.Limit (Some Lrat) which place
ending_outcome (ending.not_refuted line why) = outcome.NotRefuted line why

module _ (w : RefuteWords) (shelf : Shelf) where
  data RefuteStops (answer : Outcome) : Type 0 where
    unjudged : StopsCheck shelf w.checked answer → RefuteStops answer
    lacks_last : (vars : ℕ) (clauses : List (List Lit)) → IsAccepted shelf w vars clauses → shelf w.lrat ≡ None → answer ≡ outcome.ReadFault → RefuteStops answer
    followed : (end : LratEnding) → IsFollowed shelf w end → end ≢ ending.refuted → answer ≡ ending_outcome end → RefuteStops answer

  refute_way : (answer : Outcome) → StopsRefute shelf w answer → RefuteStops answer
  refute_way _ (unchecked answer stops) = unjudged stops
  refute_way _ (refute_lacking vars clauses accepted none) = lacks_last vars clauses accepted none refl
  refute_way _ (refute_token place e found) = followed _ found (λ e. cc) refl
  refute_way _ (refute_limit place which found) = followed _ found (λ e. cc) refl
  refute_way _ (no_refutation line why found) = followed _ found (λ e. cc) refl

  accepted_no : (answer : Outcome) (vars : ℕ) (clauses : List (List Lit)) → IsAccepted shelf w vars clauses → StopsCheck shelf w.checked answer → ⊥
  accepted_no answer vars clauses accepted stops = check_both w.checked shelf answer accepted.judged (check_way w.checked shelf answer stops)

  -- the clauses of one CNF
  said_same : (cnf : List ℕ) (n m : ℕ) (cs ds : List (List Lit)) → SaysClauses cnf n cs → SaysClauses cnf m ds → (n ≡ m) × (cs ≡ ds)
  said_same cnf n m cs ds one other =
      let told : says one.head cs ≡ says other.head ds = sym one.says_all ∙ other.says_all in
      let heads : one.head ≡ other.head = cc in
      (one.vars_are ∙ ap (λ (h : CnfHead). h.vars) heads ∙ sym other.vars_are, cc)

  followed_same : (a b : LratEnding) → IsFollowed shelf w a → IsFollowed shelf w b → a ≡ b
  followed_same a b found other =
      let cnf = same_some (shelf w.checked.cnf) other.accepted.judged.cnf found.accepted.judged.cnf other.accepted.judged.has_cnf found.accepted.judged.has_cnf in
      let same = said_same found.accepted.judged.cnf other.vars found.vars other.clauses found.clauses (subst (λ (xs : List ℕ). SaysClauses xs other.vars other.clauses) cnf other.accepted.says_all) found.accepted.says_all in
      let lrat = same_some (shelf w.lrat) other.lrat found.lrat other.has_lrat found.has_lrat in
      sym found.ends ∙ ap (lrat_walk found.vars found.clauses) (sym lrat) ∙ ap (λ (cs : List (List Lit)). lrat_walk found.vars cs other.lrat) (sym same.1) ∙ ap (λ (n : ℕ). lrat_walk n other.clauses other.lrat) (sym same.0) ∙ other.ends

  refute_ways : (a b : Outcome) → RefuteStops a → RefuteStops b → a ≡ b
  refute_ways a b (unjudged h) (unjudged k) = (one_check w.checked shelf).one_stop a b h k
  refute_ways a b (unjudged h) (lacks_last vars clauses accepted none is) = absurd (accepted_no a vars clauses accepted h)
  refute_ways a b (unjudged h) (followed end found not is) = absurd (accepted_no a found.vars found.clauses found.accepted h)
  refute_ways a b (lacks_last vars clauses accepted none is) (unjudged h) = absurd (accepted_no b vars clauses accepted h)
  refute_ways a b (lacks_last vars clauses accepted none is) (lacks_last vars' clauses' accepted' none' is') = is ∙ sym is'
  refute_ways a b (lacks_last vars clauses accepted none is) (followed end found not is') = absurd (not_none (shelf w.lrat) found.lrat found.has_lrat none)
  refute_ways a b (followed end found not is) (unjudged h) = absurd (accepted_no b found.vars found.clauses found.accepted h)
  refute_ways a b (followed end found not is) (lacks_last vars clauses accepted none is') = absurd (not_none (shelf w.lrat) found.lrat found.has_lrat none)
  refute_ways a b (followed end found not is) (followed other found' not' is') = is ∙ ap ending_outcome (followed_same end other found found') ∙ sym is'

  refute_both : (answer : Outcome) → IsFollowed shelf w ending.refuted → RefuteStops answer → ⊥
  refute_both answer found (unjudged h) = accepted_no answer found.vars found.clauses found.accepted h
  refute_both answer found (lacks_last vars clauses accepted none is) = not_none (shelf w.lrat) found.lrat found.has_lrat none
  refute_both answer found (followed end found' not is) = not (followed_same end ending.refuted found' found)

  pub one_refute : SpecifiesOne (refute_spec w) shelf
  one_refute = record {
    one_output = λ out other (found, is) (found', is'). is ∙ sym is';
    one_stop = λ a b h k. refute_ways a b (refute_way a h) (refute_way b k);
    not_both = λ out answer (found, is) h. refute_both answer found (refute_way answer h);
  }

-- ---- decode

-- the outcome of what a model comes to
abbrev decoded_outcome : Decoded → Outcome
decoded_outcome decoded.NoModel = outcome.NoModel
decoded_outcome (decoded.Violates statement) = outcome.NotASolution statement
decoded_outcome decoded.Solution = outcome.Done

decoded_same : (p : Problem) (m : Model) (d e : Decoded) → IsDecoded p m d → IsDecoded p m e → d ≡ e
decoded_same p m decoded.NoModel decoded.NoModel h k = refl
decoded_same p m decoded.NoModel (decoded.Violates n) h k = absurd (h k.0)
decoded_same p m decoded.NoModel decoded.Solution h k = absurd (h k.0)
decoded_same p m (decoded.Violates n) decoded.NoModel h k = absurd (k h.0)
decoded_same p m (decoded.Violates n) (decoded.Violates l) h k = ap decoded.Violates (violated_one (assignment_of p m) p.statements n l h.1 k.1)
decoded_same p m (decoded.Violates n) decoded.Solution h k = absurd (none_violated (assignment_of p m) p.statements n k.1.statements h.1)
decoded_same p m decoded.Solution decoded.NoModel h k = absurd (k h.0)
decoded_same p m decoded.Solution (decoded.Violates n) h k = absurd (none_violated (assignment_of p m) p.statements n h.1.statements k.1)
decoded_same p m decoded.Solution decoded.Solution h k = refl

module _ (w : DecodeWords) (shelf : Shelf) where
  data DecodeStops (answer : Outcome) : Type 0 where
    unread : IsUnread shelf w.opb (RefusesOpb w.bound) answer → DecodeStops answer
    no_answer : (p : Problem) → IsDenoted shelf w.opb w.bound p → IsUnread shelf w.model (RefusesModel p.vars) answer → DecodeStops answer
    comes : (p : Problem) (m : Model) (d : Decoded) → ComesTo shelf w p m d → d ≢ decoded.Solution → answer ≡ decoded_outcome d → DecodeStops answer

  decode_way : (answer : Outcome) → StopsDecode shelf w answer → DecodeStops answer
  decode_way answer (decode_no_problem _ is) = unread is
  decode_way answer (unanswered p _ denoted is) = no_answer p denoted is
  decode_way _ (no_model p m found) = comes p m decoded.NoModel found (λ e. cc) refl
  decode_way _ (violated p m statement found) = comes p m (decoded.Violates statement) found (λ e. cc) refl

  unanswered_of : (p q : Problem) (answer : Outcome) → IsDenoted shelf w.opb w.bound p → IsDenoted shelf w.opb w.bound q → IsUnread shelf w.model (RefusesModel q.vars) answer → IsUnread shelf w.model (RefusesModel p.vars) answer
  unanswered_of p q answer denoted posed' h = subst (λ (r : Problem). IsUnread shelf w.model (RefusesModel r.vars) answer) (same_posed shelf w.opb w.bound q p posed' denoted) h

  answered_read : (p q : Problem) (m : Model) (answer : Outcome) → IsAnswered shelf w p m → IsDenoted shelf w.opb w.bound q → IsUnread shelf w.model (RefusesModel q.vars) answer → ⊥
  answered_read p q m answer found denoted h =
      unread_read shelf w.model found.text (RefusesModel p.vars) answer found.on_shelf (model_refuses_none p.vars found.text m answer found.says) (unanswered_of p q answer found.denoted denoted h)

  pub comes_same : (p q : Problem) (m n : Model) (d e : Decoded) → ComesTo shelf w p m d → ComesTo shelf w q n e → (p ≡ q) × (m ≡ n) × (d ≡ e)
  comes_same p q m n d e found other =
      let problems : q ≡ p = same_posed shelf w.opb w.bound q p other.answered.denoted found.answered.denoted in
      let models : m ≡ n = same_told shelf w p m n found.answered (subst (λ (r : Problem). IsAnswered shelf w r n) problems other.answered) in
      let decodes : IsDecoded p m e = subst (λ (k : Model). IsDecoded p k e) (sym models) (subst (λ (r : Problem). IsDecoded r n e) problems other.decoded) in
      (sym problems, models, decoded_same p m d e found.decoded decodes)

  decode_ways : (a b : Outcome) → DecodeStops a → DecodeStops b → a ≡ b
  decode_ways a b (unread h) (unread k) = unread_one shelf w.opb (RefusesOpb w.bound) (opb_one w.bound) a b h k
  decode_ways a b (unread h) (no_answer p denoted is) = absurd (unread_posed shelf w.opb w.bound p a h denoted)
  decode_ways a b (unread h) (comes p m d found not is) = absurd (unread_posed shelf w.opb w.bound p a h found.answered.denoted)
  decode_ways a b (no_answer p denoted is) (unread h) = absurd (unread_posed shelf w.opb w.bound p b h denoted)
  decode_ways a b (no_answer p denoted is) (no_answer q posed' is') = unread_one shelf w.model (RefusesModel p.vars) (model_one p.vars) a b is (unanswered_of p q b denoted posed' is')
  decode_ways a b (no_answer p denoted is) (comes q m d found not is') = absurd (answered_read q p m a found.answered denoted is)
  decode_ways a b (comes p m d found not is) (unread h) = absurd (unread_posed shelf w.opb w.bound p b h found.answered.denoted)
  decode_ways a b (comes p m d found not is) (no_answer q denoted is') = absurd (answered_read p q m b found.answered denoted is')
  decode_ways a b (comes p m d found not is) (comes q n e found' not' is') = is ∙ ap decoded_outcome (comes_same p q m n d e found found').2 ∙ sym is'

  decode_both : (p : Problem) (m : Model) (answer : Outcome) → ComesTo shelf w p m decoded.Solution → DecodeStops answer → ⊥
  decode_both p m answer found (unread h) = unread_posed shelf w.opb w.bound p answer h found.answered.denoted
  decode_both p m answer found (no_answer q denoted is) = answered_read p q m answer found.answered denoted is
  decode_both p m answer found (comes q n d found' not is) = not (sym (comes_same p q m n decoded.Solution d found found').2)

  solution_same : (p q : Problem) (m n : Model) → p ≡ q → m ≡ n → only_words (solution_text p m.values) ≡ only_words (solution_text q n.values)
  solution_same p q m n problems models = ap (λ (r : Problem). only_words (solution_text r m.values)) problems ∙ ap (λ (k : Model). only_words (solution_text q k.values)) models

  pub one_decode : SpecifiesOne (decode_spec w) shelf
  one_decode = record {
    one_output = λ out other (p, m, found, is) (q, n, found', is').
        let same = comes_same p q m n decoded.Solution decoded.Solution found found' in
        is ∙ solution_same p q m n same.0 same.1 ∙ sym is';
    one_stop = λ a b h k. decode_ways a b (decode_way a h) (decode_way b k);
    not_both = λ out answer (p, m, found, is) h. decode_both p m answer found (decode_way answer h);
  }
