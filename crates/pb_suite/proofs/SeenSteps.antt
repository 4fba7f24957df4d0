-- How a text was read and words were said, as it is seen from a later state of the desk.
use Rattle.std.proofs.Common.{◌≡◌, ◌+◌, ◌++◌, ◌≤◌, ◌<◌, ℕ, List, Option, Some, None, ap, length, refl, take}
use Rattle.std.specs.Prelude.{IsSome, IsSomeAnd, IsTrue}
use Rattle.pb_desk.specs.View.{View, spoke, taken}
use Rattle.pb_desk.specs.Desk.{Advances, DeskState, IsSteady, Reaches, same}
use Rattle.pb_desk.specs.LineReading.{FailsAhead, nothing_held}
use Rattle.pb_dimacs.specs.CnfForms.{LeavesTold, StopsForms, TakesText}
use Rattle.pb_dimacs.specs.CnfWhole.{told_of}
use Rattle.pb_dimacs.specs.CnfWhole.CnfTold.{refuses}
use Rattle.pb_dimacs.specs.declared.fault.CnfFault.{CnfFault}
use Rattle.pb_dimacs.specs.declared.fault.CnfFault.TheVariants as cnf
use Rattle.pb_suite.specs.Seen.{hidden, seen_from, Stays}
use Rattle.pb_suite.specs.declared.outcome.Outcome.{Outcome}
use Rattle.pb_suite.specs.inner.Saying.{EndsSaying, EndsTelling}
use Rattle.pb_suite.specs.inner.Saying.EndsSaying.{whole, cut_off}
use Rattle.pb_suite.specs.inner.Saying.EndsTelling.{says, no_memory as wanting}
use Rattle.pb_base.specs.declared.options.Options.{Options}
use Rattle.pb_base.specs.declared.problem.Problem.{Problem}
use Rattle.pb_encode.specs.BoundLines.{words_of}
use Rattle.pb_encode.specs.Encodings.{begun, derivation_text, made, made_files, problem_text, with_proof, AfterCnf, FileNames, LacksToMake, LeavesPart, Refuses, StopsEncoding, StopsMaking, WantsMemory}
use Rattle.pb_base.specs.declared.limit.LimitKind.{LimitKind}
use Rattle.pb_encode.specs.declared.fault.EncodeFault.{EncodeFault}
use Rattle.pb_encode.specs.declared.fault.EncodeFault.TheVariants as encode
use Rattle.pb_encode.specs.Weighted.{weighted_text, IsWeightedCutOff, WantsForWeighted}
use Rattle.pb_encode.specs.Weighted.WantsForWeighted.{not_made as no_file, in_text as some_text}
use Rattle.pb_encode.specs.Encodings.LeavesPart.{left, cut_off as broken}
use Rattle.pb_encode.specs.Encodings.StopsEncoding.{in_cnf as cnf_stops, in_proof as proof_stops}
use Rattle.pb_encode.specs.Encodings.StopsMaking.{not_made as unmade, in_text}
use Rattle.pb_encode.specs.Encodings.WantsMemory.{not_made as unmade_yet, in_cnf as cnf_left, in_proof as proof_left}
use Rattle.pb_suite.specs.inner.Runs.{fetched, Fetches, HasText, stored, stored_whole, EndsStoring, LacksToStore, StopsStoring}
use Rattle.pb_suite.specs.inner.Runs.EndsStoring.{whole as all_stored, stopped}
use Rattle.pb_suite.specs.inner.Runs.StopsStoring.{over, not_made, in_words, no_memory, no_words}
use Rattle.pb_suite.proofs.Rooms.{same_steady}
use Rattle.pb_suite.proofs.SeenLemmas.{reaches_seen, reaches_stays, reads_seen, reads_stays, so_seen, stays_then, steady_seen, stops_seen, told_on, told_seen, unread_seen, unread_stays, unwritten_seen, unwritten_stays}

-- ---- reading, seen from where it ended

module _ (slot : ℕ) (a b d : DeskState) (before : IsTrue d.keeps → IsTrue b.keeps) where
  pub advances_on : (count : ℕ) → Advances slot count a b → Advances slot count (seen_from d a) (seen_from d b)
  advances_on count h = record { reached = reads_seen (taken slot count) (λ v. refl) a b d h.reached; were_left = λ _. told_seen a b d (λ t. count ≤ length (t.left slot)) before h.were_left }

  pub takes_on : (P : List ℕ → Type 0) → TakesText slot P a b → TakesText slot P (seen_from d a) (seen_from d b)
  takes_on P h = record { count = h.count; takes = advances_on h.count h.takes; text = λ _. told_seen a b d (λ t. P (t.left slot)) before h.text }

module _ (slot : ℕ) (a b : DeskState) where
  pub advances_seen : (count : ℕ) → Advances slot count a b → Advances slot count (seen_from b a) (seen_from b b)
  advances_seen count h = advances_on slot a b b (λ k. k) count h

  pub takes_seen : (P : List ℕ → Type 0) → TakesText slot P a b → TakesText slot P (seen_from b a) (seen_from b b)
  takes_seen P h = takes_on slot a b b (λ k. k) P h

  pub ahead_seen : (P : List ℕ → Type 0) → FailsAhead slot nothing_held a b P → FailsAhead slot nothing_held (seen_from b a) (seen_from b b) P
  ahead_seen P h = record {
    count = h.count;
    fails = unread_seen (taken slot h.count) (λ v. refl) a b b h.fails;
    not_over = h.not_over;
    told = λ _. told_seen a b b (λ t. (h.count ≤ length (t.left slot)) × P (nothing_held.bytes ++ take h.count (t.left slot))) (λ k. k) h.told;
  }

  pub forms_seen : (fault : CnfFault) → StopsForms slot a b fault → StopsForms slot (seen_from b a) (seen_from b b) fault
  forms_seen cnf.Failed h = ahead_seen LeavesTold h
  forms_seen cnf.NoMemory h = takes_seen (λ text. Unit {0}) h
  forms_seen (cnf.Token place e) h = takes_seen (λ text. told_of text ≡ refuses (cnf.Token place e)) h
  forms_seen (cnf.Limit place which) h = takes_seen (λ text. told_of text ≡ refuses (cnf.Limit place which)) h

  pub takes_stays : (P : List ℕ → Type 0) → TakesText slot P a b → Stays a b
  takes_stays P h = reads_stays (taken slot h.count) (λ v. refl) a b h.takes.reached

  pub forms_stays : (fault : CnfFault) → StopsForms slot a b fault → Stays a b
  forms_stays cnf.Failed h = unread_stays (taken slot h.count) (λ v. refl) a b h.fails
  forms_stays cnf.NoMemory h = takes_stays (λ text. Unit {0}) h
  forms_stays (cnf.Token place e) h = takes_stays (λ text. told_of text ≡ refuses (cnf.Token place e)) h
  forms_stays (cnf.Limit place which) h = takes_stays (λ text. told_of text ≡ refuses (cnf.Limit place which)) h

-- the text of a name, seen from a later state
pub text_on : (name : List ℕ) (P : List ℕ → Type 0) (a b d : DeskState) → (IsTrue d.keeps → IsTrue b.keeps) → HasText name P (seen_from b a) → HasText name P (seen_from d a)
text_on name P a b d before has = told_on a b d (λ t. (text : List ℕ) × (t.shelf name ≡ Some text) × P text) before has

-- a text was read
pub fetched_seen : (slot : ℕ) (name : List ℕ) (a b d : DeskState) → (count : ℕ) × Fetches slot name count a b → (count : ℕ) × Fetches slot name count (seen_from d a) (seen_from d b)
fetched_seen slot name a b d read = (read.0, reads_seen (fetched slot name read.0) (λ v. refl) a b d read.1)

-- a steady desk tells
pub telling_desk : (a d : DeskState) → (IsSteady a → IsSome a.view.told) → IsSteady (seen_from d a) → IsSome (seen_from d a).view.told
telling_desk a d tells = steady_seen a d (λ (v : View). IsSome v.told) tells

-- ---- saying

pub said_stays : (line : List ℕ) (b d : DeskState) (answer : Outcome) → EndsSaying line b d answer → Stays b d
said_stays line b d _ (whole far) = reaches_stays (spoke line) (λ v. refl) b d far
said_stays line b d _ (cut_off stop lacks) = unwritten_stays (spoke (take stop.count line)) (λ v. refl) b d stop.fails

pub saying_seen : (line : List ℕ) (b d : DeskState) (answer : Outcome) → EndsSaying line b d answer → EndsSaying line (seen_from d b) (seen_from d d) answer
saying_seen line b d _ (whole far) = whole (reaches_seen (spoke line) (λ v. refl) b d d far)
saying_seen line b d _ (cut_off stop lacks) =
    cut_off (stops_seen line spoke (λ xs v. refl) b d d stop) (steady_seen b d (λ (v : View). IsSomeAnd v.room (λ most. IsSomeAnd v.told (λ t. most < length t.said + length line))) lacks)

pub told_stays : (line : List ℕ) (b d : DeskState) (answer : Outcome) → EndsTelling line b d answer → Stays b d
told_stays line b d _ (says answer ends) = said_stays line b d answer ends
told_stays line b d _ (wanting none) = reaches_stays same (λ v. refl) b d none

pub telling_seen : (line : List ℕ) (b d : DeskState) (answer : Outcome) → EndsTelling line b d answer → EndsTelling line (seen_from d b) (seen_from d d) answer
telling_seen line b d _ (says answer ends) = says answer (saying_seen line b d answer ends)
telling_seen line b d _ (wanting none) = wanting (reaches_seen same (λ v. refl) b d d none)

-- ---- making files, seen from a later state

module _ (slot : ℕ) (name text : List ℕ) (a b d : DeskState) where
  making_seen : StopsMaking slot name text a b → StopsMaking slot name text (seen_from d a) (seen_from d b)
  making_seen (unmade fails) = unmade (unwritten_seen same (λ v. refl) a b d fails)
  making_seen (in_text count fails) = in_text count (unwritten_seen (begun slot name (take count text)) (λ v. refl) a b d fails)

  leaving_seen : (IsTrue d.keeps → IsTrue a.keeps) → LeavesPart slot name text a b → LeavesPart slot name text (seen_from d a) (seen_from d b)
  leaving_seen before (left count far) = left count (reaches_seen (begun slot name (take count text)) (λ v. refl) a b d far)
  leaving_seen before (broken count fails lacks) = broken count (unwritten_seen (begun slot name (take count text)) (λ v. refl) a b d fails) (so_seen a d before (LacksToMake slot name text) lacks)

left_stays : (slot : ℕ) (name text : List ℕ) (a b : DeskState) → LeavesPart slot name text a b → Stays a b
left_stays slot name text a b (left count far) = reaches_stays (begun slot name (take count text)) (λ v. refl) a b far
left_stays slot name text a b (broken count fails lacks) = unwritten_stays (begun slot name (take count text)) (λ v. refl) a b fails

making_stays : (slot : ℕ) (name text : List ℕ) (a b : DeskState) → StopsMaking slot name text a b → Stays a b
making_stays slot name text a b (unmade fails) = unwritten_stays same (λ v. refl) a b fails
making_stays slot name text a b (in_text count fails) = unwritten_stays (begun slot name (take count text)) (λ v. refl) a b fails

module _ (o : Options) (p : Problem) (names : FileNames) where
  commutes : (proof : Option (List ℕ)) (v : View) → hidden (with_proof o p proof (made 0 names.cnf (problem_text o p) v)) ≡ with_proof o p proof (made 0 names.cnf (problem_text o p) (hidden v))
  commutes None v = refl
  commutes (Some proof) v = refl

  after_seen : (Ends Ends' : List ℕ → DeskState → Type 0) (a d : DeskState) → ((proof : List ℕ) (between : DeskState) → Ends proof between → Ends' proof (seen_from d between)) → AfterCnf o p names Ends a → AfterCnf o p names Ends' (seen_from d a)
  after_seen Ends Ends' a d gives h = record {
    proof = h.proof;
    named = h.named;
    between = seen_from d h.between;
    whole = reaches_seen (made 0 names.cnf (problem_text o p)) (λ v. refl) a h.between d h.whole;
    ends = gives h.proof h.between h.ends;
  }

  encoding_seen : (a b d : DeskState) → StopsEncoding o p names a b → StopsEncoding o p names (seen_from d a) (seen_from d b)
  encoding_seen a b d (cnf_stops stops) = cnf_stops (making_seen 0 names.cnf (problem_text o p) a b d stops)
  encoding_seen a b d (proof_stops after) =
      proof_stops (after_seen (λ proof between. StopsMaking 1 proof (derivation_text o p) between b) (λ proof between. StopsMaking 1 proof (derivation_text o p) between (seen_from d b)) a d
      (λ proof between ends. making_seen 1 proof (derivation_text o p) between b d ends) after)

  module _ (a b : DeskState) where
    made_stays : (d : DeskState) → Reaches (made 0 names.cnf (problem_text o p)) a d → Stays d b → Stays a b
    made_stays d far ends = stays_then a d b (reaches_stays (made 0 names.cnf (problem_text o p)) (λ v. refl) a d far) ends

    wanting_stays : WantsMemory o p names a b → Stays a b
    wanting_stays (unmade_yet far) = reaches_stays same (λ v. refl) a b far
    wanting_stays (cnf_left is leaves) = left_stays 0 names.cnf (problem_text o p) a b leaves
    wanting_stays (proof_left is after) = made_stays after.between after.whole (left_stays 1 after.proof (derivation_text o p) after.between b after.ends)

    encoding_stays : StopsEncoding o p names a b → Stays a b
    encoding_stays (cnf_stops stops) = making_stays 0 names.cnf (problem_text o p) a b stops
    encoding_stays (proof_stops after) = made_stays after.between after.whole (making_stays 1 after.proof (derivation_text o p) after.between b after.ends)

    pub wanting_seen : WantsMemory o p names a b → WantsMemory o p names (seen_from b a) (seen_from b b)
    wanting_seen (unmade_yet far) = unmade_yet (reaches_seen same (λ v. refl) a b b far)
    wanting_seen (cnf_left is leaves) = cnf_left is (leaving_seen 0 names.cnf (problem_text o p) a b b (left_stays 0 names.cnf (problem_text o p) a b leaves).kept leaves)
    wanting_seen (proof_left is after) =
        proof_left is (after_seen (λ proof between. LeavesPart 1 proof (derivation_text o p) between b) (λ proof between. LeavesPart 1 proof (derivation_text o p) between (seen_from b b)) a b
        (λ proof between ends. leaving_seen 1 proof (derivation_text o p) between b b (left_stays 1 proof (derivation_text o p) between b ends).kept ends) after)

    stopping_stays : (answer : Outcome) → StopsStoring o p names a b answer → Stays a b
    stopping_stays _ (over which is far) = reaches_stays same (λ v. refl) a b far
    stopping_stays _ (not_made is stops) = encoding_stays stops
    stopping_stays _ (in_words is count fails) = unwritten_stays (stored o p names (take count (words_of o p))) (λ v. same_steady o p v names.cnf names.proof) a b fails
    stopping_stays _ (no_memory wants) = wanting_stays wants
    stopping_stays _ (no_words is far) = reaches_stays (made_files o p names) (λ v. same_steady o p v names.cnf names.proof) a b far

    stopping_seen : (answer : Outcome) → StopsStoring o p names a b answer → StopsStoring o p names (seen_from b a) (seen_from b b) answer
    stopping_seen _ (over which is far) = over which is (reaches_seen same (λ v. refl) a b b far)
    stopping_seen _ (not_made is stops) = not_made is (encoding_seen a b b stops)
    stopping_seen _ (in_words is count fails) = in_words is count (unwritten_seen (stored o p names (take count (words_of o p))) (λ v. ap (spoke (take count (words_of o p))) (commutes names.proof v)) a b b fails)
    stopping_seen _ (no_memory wants) = no_memory (wanting_seen wants)
    stopping_seen _ (no_words is far) = no_words is (reaches_seen (made_files o p names) (commutes names.proof) a b b far)

    pub stored_stays : (answer : Outcome) → EndsStoring o p names a b answer → Stays a b
    stored_stays _ (all_stored is far) = reaches_stays (stored_whole o p names) (λ v. same_steady o p v names.cnf names.proof) a b far
    stored_stays _ (stopped answer stops lacks) = stopping_stays answer stops

    pub storing_seen : (answer : Outcome) → EndsStoring o p names a b answer → EndsStoring o p names (seen_from b a) (seen_from b b) answer
    storing_seen _ (all_stored is far) = all_stored is (reaches_seen (stored_whole o p names) (λ v. ap (spoke (words_of o p)) (commutes names.proof v)) a b b far)
    storing_seen _ (stopped answer stops lacks) = stopped answer (stopping_seen answer stops) (λ steady is. so_seen a b (stopping_stays answer stops).kept (LacksToStore o p names) (λ s. lacks s is) steady)

-- ---- the file of a weighted CNF, seen from where making it ended

module _ (o : Options) (p : Problem) (name : List ℕ) (b d : DeskState) where
  pub refused_seen : (k : LimitKind) → Refuses k o p b d → Refuses k o p (seen_from d b) (seen_from d d)
  refused_seen k found = (found.0, reaches_seen same (λ v. refl) b d d found.1)

  pub cut_seen : IsWeightedCutOff o p name b d → IsWeightedCutOff o p name (seen_from d b) (seen_from d d)
  cut_seen cut = record { encodable = cut.encodable; stops = making_seen 0 name (weighted_text o p) b d d cut.stops }

  pub weighting_seen : WantsForWeighted o p name b d → WantsForWeighted o p name (seen_from d b) (seen_from d d)
  weighting_seen (no_file far) = no_file (reaches_seen same (λ v. refl) b d d far)
  weighting_seen (some_text is leaves) = some_text is (leaving_seen 0 name (weighted_text o p) b d d (left_stays 0 name (weighted_text o p) b d leaves).kept leaves)

  weighting_stays : WantsForWeighted o p name b d → Stays b d
  weighting_stays (no_file far) = reaches_stays same (λ v. refl) b d far
  weighting_stays (some_text is leaves) = left_stays 0 name (weighted_text o p) b d leaves

  pub weighted_stays : (f : EncodeFault) → ((k : LimitKind) → f ≡ encode.Limit k → Refuses k o p b d) → (f ≡ encode.WriteFault → IsWeightedCutOff o p name b d) → (f ≡ encode.NoMemory → WantsForWeighted o p name b d) → Stays b d
  weighted_stays (encode.Limit k) limit write memory = reaches_stays same (λ v. refl) b d (limit k refl).1
  weighted_stays encode.WriteFault limit write memory = making_stays 0 name (weighted_text o p) b d (write refl).stops
  weighted_stays encode.NoMemory limit write memory = weighting_stays (memory refl)
