-- What is due of a text that denotes a problem.
use Rattle.std.proofs.Common.{◌≡◌, Some, None, inr, refl}
use Rattle.pb_base.specs.declared.limit.LimitKind.{LimitKind}
use Rattle.pb_base.specs.declared.problem.Problem.{Problem}
use Rattle.pb_desk.specs.Desk.{DeskState, IfTold}
use Rattle.pb_encode.specs.Encodings.{derivation_text}
use Rattle.pb_encode.specs.Summaries.{IsEncodable, IsOver}
use Rattle.pb_words.specs.EncodeWords.{EncodeWords}
use Rattle.pb_words.specs.inner.Fit.{IsFitEncode}
use Rattle.pb_suite.specs.declared.outcome.Outcome.TheVariants as outcome
use Rattle.pb_suite.specs.EncodeSpec.{encoded_output, names_in, encode_spec}
use Rattle.pb_suite.specs.EncodeSpec.PassesLimit.{over}
use Rattle.pb_suite.specs.Denoted.{IsDenoted}
use Rattle.pb_suite.proofs.Texts.{told_more}

-- the derivation has another name than the CNF
pub names_differ : (w : EncodeWords) → IsFitEncode w → w.proof ≡ Some w.cnf → ⊥
names_differ w fit named = (fit.other w.cnf named).1 refl

module _ (w : EncodeWords) (p : Problem) (b : DeskState) (denoted : IfTold b (λ t. IsDenoted t.shelf w.opb w.bound p)) where
  pub encoded_due : IsEncodable w.options p → IfTold b (λ t. (encode_spec derivation_text w).done t.shelf (encoded_output derivation_text (names_in w) w.options p))
  encoded_due is = told_more b (λ t. IsDenoted t.shelf w.opb w.bound p) (λ t. (encode_spec derivation_text w).done t.shelf (encoded_output derivation_text (names_in w) w.options p)) (λ t found. (p, found, is, refl)) denoted

  pub over_due : (which : LimitKind) → IsOver which w.options p → IfTold b (λ t. (encode_spec derivation_text w).stops t.shelf (outcome.Limit None which None))
  over_due which is = told_more b (λ t. IsDenoted t.shelf w.opb w.bound p) (λ t. (encode_spec derivation_text w).stops t.shelf (outcome.Limit None which None)) (λ t found. inr (over p which found is)) denoted
