-- How making a weighted CNF ends a command that is to do so.
use Rattle.pb_encode.specs.BoundLines.{words_of}
use Rattle.std.proofs.Common.{◌≡◌, ◌∙◌, ℕ, List, None, ap, inr, length, refl, take, false}
use Rattle.std.specs.Prelude.{IsSome}
use Rattle.pb_base.specs.declared.limit.LimitKind.{LimitKind}
use Rattle.pb_base.specs.declared.problem.Problem.{Problem}
use Rattle.pb_desk.specs.View.{View, spoke}
use Rattle.pb_desk.specs.Desk.{DeskState, IfTold, IsSteady, LacksRoom, Reaches, StopsIn, same, words}
use Rattle.pb_desk.proofs.Steps.{then, then_fails_to_write}
use Rattle.pb_encode.specs.declared.fault.EncodeFault.{EncodeFault}
use Rattle.pb_encode.specs.declared.fault.EncodeFault.TheVariants as fault
use Rattle.pb_encode.specs.Encodings.{made, Refuses}
use Rattle.pb_encode.specs.Summaries.{IsEncodable, IsOver}
use Rattle.pb_encode.specs.Weighted.{weighted_text, IsWeightedCutOff, LacksForWeighted, WantsForWeighted}
use Rattle.pb_encode.specs.Weighted.WantsForWeighted.{not_made, in_text}
use Rattle.pb_words.specs.WcnfWords.{WcnfWords}
use Rattle.pb_suite.specs.declared.outcome.Outcome.{Outcome}
use Rattle.pb_suite.specs.declared.outcome.Outcome.TheVariants as outcome
use Rattle.pb_suite.specs.Implementing.{Implements}
use Rattle.pb_suite.specs.Outputs.{nothing}
use Rattle.pb_suite.specs.WcnfSpec.{wcnf_spec, weighted_output}
use Rattle.pb_suite.specs.EncodeSpec.PassesLimit.{over}
use Rattle.pb_suite.specs.Denoted.{IsDenoted}
use Rattle.pb_suite.specs.inner.Runs.{outcome_of}
use Rattle.pb_suite.specs.inner.Saying.{EndsSaying, EndsTelling}
use Rattle.pb_suite.specs.inner.Saying.EndsSaying.{whole, cut_off}
use Rattle.pb_suite.specs.inner.Saying.EndsTelling.{says, no_memory}
use Rattle.pb_suite.proofs.Endings.{bare_memory, is_refused}
use Rattle.pb_suite.proofs.Going.{by_same, goes_by}
use Rattle.pb_suite.proofs.OneFile.{all_said, file_stops, file_wants, words_stop, words_want}
use Rattle.pb_suite.proofs.Rooms.{made_lacks_words}
use Rattle.pb_suite.proofs.Texts.{told_more}

module _ (w : WcnfWords) (p : Problem) (b : DeskState) (denoted : IfTold b (λ t. IsDenoted t.shelf w.opb w.bound p)) where
  pub weighed_due : IsEncodable w.options p → IfTold b (λ t. (wcnf_spec w).done t.shelf (weighted_output w.wcnf w.options p))
  weighed_due is = told_more b (λ t. IsDenoted t.shelf w.opb w.bound p) (λ t. (wcnf_spec w).done t.shelf (weighted_output w.wcnf w.options p)) (λ t found. (p, found, is, refl)) denoted

  over_due : (which : LimitKind) → IsOver which w.options p → IfTold b (λ t. (wcnf_spec w).stops t.shelf (outcome.Limit None which None))
  over_due which is = told_more b (λ t. IsDenoted t.shelf w.opb w.bound p) (λ t. (wcnf_spec w).stops t.shelf (outcome.Limit None which None)) (λ t found. inr (over p which found is)) denoted

  module _ (tells : IsSteady b → IsSome b.view.told) where
    abbrev pub text : List ℕ
    text = weighted_text w.options p

    abbrev pub summary : List ℕ
    summary = words_of w.options p

    abbrev pub Fine : Type 0
    Fine = IsEncodable w.options p

    wants : (d : DeskState) → WantsForWeighted w.options p w.wcnf b d → Implements (wcnf_spec w) b d outcome.NoMemory
    wants d (not_made far) = bare_memory (wcnf_spec w) b d (goes_by 1 nothing same b d (by_same 1) far)
    wants d (in_text is part) = file_wants (wcnf_spec w) w.wcnf text summary Fine b d tells weighed_due is part

    -- the file was not made
    pub unmade_implements : (d : DeskState) (f : EncodeFault) → ((k : LimitKind) → f ≡ fault.Limit k → Refuses k w.options p b d) → (f ≡ fault.WriteFault → IsWeightedCutOff w.options p w.wcnf b d) → (f ≡ fault.NoMemory → WantsForWeighted w.options p w.wcnf b d)
        → (IsSteady b → f ≡ fault.WriteFault → LacksForWeighted w.options p w.wcnf b) → Implements (wcnf_spec w) b d (outcome_of f)
    unmade_implements d (fault.Limit k) limit write memory lacks = let found = limit k refl in is_refused (wcnf_spec w) b d (outcome.Limit None k None) (goes_by 1 nothing same b d (by_same 1) found.1) tt (over_due k found.0)
    unmade_implements d fault.WriteFault limit write memory lacks = let cut = write refl in file_stops (wcnf_spec w) w.wcnf text summary Fine b d tells weighed_due cut.encodable (λ steady. lacks steady refl) cut.stops
    unmade_implements d fault.NoMemory limit write memory lacks = wants d (memory refl)

    -- ---- once it was made

    module _ (e d : DeskState) (is : Fine) (far : Reaches (made 0 w.wcnf text) b e) where
      says_all : Reaches (spoke summary) e d → ((slot : ℕ) → b.view.writing slot ≡ false) → Implements (wcnf_spec w) b d outcome.Done
      says_all said free =
          let spoken : View → View = λ v. spoke summary (made 0 w.wcnf text v) in
          all_said (wcnf_spec w) w.wcnf text summary Fine b d tells weighed_due is (then (made 0 w.wcnf text) (spoke summary) spoken b e d (λ v. refl) far said) free

      says_some : StopsIn summary spoke e d → (IsSteady e → LacksRoom words (length summary) e) → Implements (wcnf_spec w) b d outcome.WriteFault
      says_some stop lacks =
          let spoken : View → View = λ v. spoke (take stop.count summary) (made 0 w.wcnf text v) in
          let still : IsSteady b → IsSteady e = λ steady. ap (λ (v : View). v.steady) far.view ∙ steady in
          words_stop (wcnf_spec w) w.wcnf text summary Fine b d tells weighed_due is stop.count (then_fails_to_write (made 0 w.wcnf text) (spoke (take stop.count summary)) spoken b e d (λ v. refl) far stop.fails)
          (λ steady. made_lacks_words w.wcnf text (length summary) b e far.view (lacks (still steady)))

      saying : ((slot : ℕ) → b.view.writing slot ≡ false) → (answer : Outcome) → EndsSaying summary e d answer → Implements (wcnf_spec w) b d answer
      saying free _ (whole said) = says_all said free
      saying free _ (cut_off stop lacks) = says_some stop lacks

      pub summary_implements : ((slot : ℕ) → b.view.writing slot ≡ false) → (answer : Outcome) → EndsTelling summary e d answer → Implements (wcnf_spec w) b d answer
      summary_implements free _ (says answer ends) = saying free answer ends
      summary_implements free _ (no_memory none) = words_want (wcnf_spec w) w.wcnf text summary Fine b d tells weighed_due is (then (made 0 w.wcnf text) same (made 0 w.wcnf text) b e d (λ v. refl) far none)
