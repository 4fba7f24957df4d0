-- How what a solver said of a problem ends a command that is to decode it.
use Rattle.std.proofs.Common.{◌≡◌, ◌<◌, ◌^◌, ℕ, Bool, true, cond, List, [], ◌∷◌, Some, None, Result, Ok, Err, ap, inl, inr, length, refl, arith}
use Rattle.std.specs.Prelude.{Contains, IsNone, nat_lt}
use Rattle.std.proofs.lemmas.Bool.Decides.{nat_tests}
use Rattle.pb_base.specs.declared.file.File.TheVariants.{Opb, Model as ModelText}
use Rattle.pb_base.specs.declared.limit.LimitKind.TheVariants as limit
use Rattle.pb_base.specs.declared.problem.Problem.{Problem}
use Rattle.pb_base.proofs.Members.{Contains-here, Contains-there}
use Rattle.pb_desk.specs.Desk.{DeskState, IfTold, IsSteady, IsTold}
use Rattle.pb_model.specs.declared.decoding.Decoded.{Decoded}
use Rattle.pb_model.specs.declared.decoding.Decoded.TheVariants as decoded
use Rattle.pb_model.specs.declared.model.Model.{Model}
use Rattle.pb_model.specs.declared.fault.ModelFault.{ModelFault}
use Rattle.pb_model.specs.declared.fault.ModelFault.TheVariants as model
use Rattle.pb_model.specs.Decoding.{IsDecoded}
use Rattle.pb_model.specs.ModelLines.{symbols_of}
use Rattle.pb_model.specs.ModelReading.{told, told_in}
use Rattle.pb_model.specs.SolutionText.{solution_text}
use Rattle.pb_words.specs.DecodeWords.{DecodeWords}
use Rattle.pb_suite.specs.declared.outcome.Outcome.{Outcome}
use Rattle.pb_suite.specs.declared.outcome.Outcome.TheVariants as outcome
use Rattle.pb_suite.specs.Implementing.{Implements}
use Rattle.pb_suite.specs.Outputs.{nothing, only_words}
use Rattle.pb_suite.specs.CommandSpec.{Text, taken_in, IsUnended}
use Rattle.pb_suite.specs.DecodeSpec.{decode_spec, ComesTo, IsAnswered, StopsDecode}
use Rattle.pb_suite.specs.DecodeSpec.StopsDecode.{no_model, unanswered, violated}
use Rattle.pb_suite.specs.Denoted.{IsDenoted}
use Rattle.pb_suite.specs.Refusals.{RefusesModel}
use Rattle.pb_suite.specs.Refusals.IsUnread.{lacks as absent, refuses as refusal}
use Rattle.pb_suite.specs.inner.Runs.{HasText, IsUnendedIn, StopsReading}
use Rattle.pb_suite.proofs.Endings.{is_refused}
use Rattle.pb_suite.proofs.Going.{shelf_is_if, Goes}
use Rattle.pb_suite.proofs.Refused.{reading_ends}
use Rattle.pb_suite.proofs.Texts.{both_told, told_more, told_none_of}

module _ (w : DecodeWords) (p : Problem) where
  abbrev first_text : Text
  first_text = record { kind = Opb; name = w.opb }

  abbrev model_text : Text
  model_text = record { kind = ModelText; name = w.model }

  has_model_text : Contains (decode_spec w).texts model_text
  has_model_text = Contains-there first_text (model_text ∷ []) model_text (Contains-here model_text [])

  -- the texts of a problem and of its model
  pub answered_by : (m : Model) (b : DeskState) → IfTold b (λ t. IsDenoted t.shelf w.opb w.bound p) → HasText w.model (λ text. told p.vars text ≡ Ok m) b → IfTold b (λ t. IsAnswered t.shelf w p m)
  answered_by m b denoted says =
      both_told b (λ t. IsDenoted t.shelf w.opb w.bound p) (λ t. (text : List ℕ) × (t.shelf w.model ≡ Some text) × (told p.vars text ≡ Ok m)) (λ t. IsAnswered t.shelf w p m)
      (λ t is found. record { denoted = is; text = found.0; on_shelf = found.1; says = found.2 }) denoted says

  comes_to : (m : Model) (d : Decoded) (b : DeskState) → IfTold b (λ t. IsAnswered t.shelf w p m) → IsDecoded p m d → IfTold b (λ t. ComesTo t.shelf w p m d)
  comes_to m d b answered is = told_more b (λ t. IsAnswered t.shelf w p m) (λ t. ComesTo t.shelf w p m d) (λ t found. record { answered = found; decoded = is }) answered

  module _ (m : Model) (b : DeskState) (still : Goes 2 nothing b b) (answered : IfTold b (λ t. IsAnswered t.shelf w p m)) where
    pub no_model_implements : IsDecoded p m decoded.NoModel → Implements (decode_spec w) b b outcome.NoModel
    no_model_implements is =
        is_refused (decode_spec w) b b outcome.NoModel still (inr (inl refl))
        (told_more b (λ t. ComesTo t.shelf w p m decoded.NoModel) (λ t. StopsDecode t.shelf w outcome.NoModel) (λ t found. no_model p m found) (comes_to m decoded.NoModel b answered is))

    pub violated_implements : (statement : ℕ) → IsDecoded p m (decoded.Violates statement) → Implements (decode_spec w) b b (outcome.NotASolution statement)
    violated_implements statement is =
        is_refused (decode_spec w) b b (outcome.NotASolution statement) still (inr (inl refl))
        (told_more b (λ t. ComesTo t.shelf w p m (decoded.Violates statement)) (λ t. StopsDecode t.shelf w (outcome.NotASolution statement)) (λ t found. violated p m statement found) (comes_to m (decoded.Violates statement) b answered is))

  pub solution_due : (m : Model) (b : DeskState) → IfTold b (λ t. IsAnswered t.shelf w p m) → IsDecoded p m decoded.Solution → IfTold b (λ t. (decode_spec w).done t.shelf (only_words (solution_text p m.values)))
  solution_due m b answered is =
      told_more b (λ t. ComesTo t.shelf w p m decoded.Solution) (λ t. (decode_spec w).done t.shelf (only_words (solution_text p m.values))) (λ t found. (p, m, found, refl)) (comes_to m decoded.Solution b answered is)

  -- what is told after a step that adds nothing
  pub answered_later : (m : Model) {few : ℕ} (b d : DeskState) → Goes few nothing b d → IfTold b (λ t. IsAnswered t.shelf w p m) → IfTold d (λ t. IsAnswered t.shelf w p m)
  answered_later m b d goes answered = shelf_is_if b d goes (λ shelf. IsAnswered shelf w p m) answered

  -- a solver's text that is not read, or is refused
  pub no_answer_implements : (b d : DeskState) → IfTold b (λ t. IsDenoted t.shelf w.opb w.bound p) → (answer : Outcome) → StopsReading ModelText 1 w.model (RefusesModel p.vars) b d answer
      → (IsSteady b → answer ≡ outcome.ReadFault → IsTold b (λ t. IsNone (t.shelf w.model))) → (answer ≡ outcome.ReadFault → IsUnendedIn 1 w.model d) → Implements (decode_spec w) b d answer
  no_answer_implements b d denoted answer stops lacks unended =
      reading_ends (decode_spec w) 1 model_text (omega arith) has_model_text (inr (inl refl)) (RefusesModel p.vars) b d (told_none_of b (λ shelf. shelf w.model) (λ shelf. StopsDecode shelf w outcome.ReadFault) (λ shelf. IsDenoted shelf w.opb w.bound p) (λ shelf is none. unanswered p _ is (absent none)) denoted)
      (λ answer found. both_told b (λ t. IsDenoted t.shelf w.opb w.bound p) (λ t. (text : List ℕ) × (t.shelf w.model ≡ Some text) × RefusesModel p.vars text answer) (λ t. StopsDecode t.shelf w answer)
      (λ t is found. unanswered p answer is (refusal found.0 answer found.1 found.2)) denoted found)
      answer stops lacks (λ e keeps shelf. both_told d (λ t. IsDenoted t.shelf w.opb w.bound p) (λ t. IsUnended 1 w.model (taken_in d.view t) d.ended) (λ t. (decode_spec w).leaves_open t.shelf (taken_in d.view t) d.ended) (λ t is more. inr (p, is, more)) (shelf (λ s. IsDenoted s w.opb w.bound p) denoted) (unended e))

-- what is told of a text that is too long
pub too_long : (vars : ℕ) (text : List ℕ) → 2 ^ 32 < length text → told vars text ≡ Err (model.Limit None limit.Text)
too_long vars text long =
    let test : nat_lt (2 ^ 32) (length text) ≡ true = grind (arith, nat_tests) in
    ap (λ (b : Bool). cond {A = Result Model ModelFault} b (Err (model.Limit None limit.Text)) (told_in vars (symbols_of vars text))) test
