-- The specification of decoding a model. Our own.
use Rattle.std.specs.Prelude.{ℕ, ◌≡◌, ◌⊎◌, List, [], ◌∷◌, Some, None, Ok}
use Rattle.pb_base.specs.declared.file.File.TheVariants.{Opb, Model as ModelText}
use Rattle.pb_base.specs.declared.problem.Problem.{Problem}
use Rattle.pb_model.specs.declared.decoding.Decoded.{Decoded}
use Rattle.pb_model.specs.declared.decoding.Decoded.TheVariants as decoded
use Rattle.pb_model.specs.declared.model.Model.{Model}
use Rattle.pb_model.specs.Decoding.{IsDecoded}
use Rattle.pb_model.specs.ModelReading.{told}
use Rattle.pb_model.specs.SolutionText.{solution_text}
use Rattle.pb_words.specs.DecodeWords.{DecodeWords}
use Rattle.pb_suite.specs.declared.outcome.Outcome.{Outcome}
use Rattle.pb_suite.specs.declared.outcome.Outcome.TheVariants as outcome
use Rattle.pb_suite.specs.Outputs.{only_words}
use Rattle.pb_suite.specs.CommandSpec.{CommandSpec, IsUnended, Shelf}
use Rattle.pb_suite.specs.Denoted.{IsDenoted}
use Rattle.pb_suite.specs.Refusals.{IsUnread, RefusesModel, RefusesOpb}

-- the shelf has both texts: a problem's, and what a solver said of its variables
pub record IsAnswered (shelf : Shelf) (w : DecodeWords) (p : Problem) (m : Model) : Type 0 where
  pub denoted : IsDenoted shelf w.opb w.bound p
  pub text : List ℕ
  pub on_shelf : shelf w.model ≡ Some text
  pub says : told p.vars text ≡ Ok m

-- the shelf has both texts, and this is what the solver's model comes to
pub record ComesTo (shelf : Shelf) (w : DecodeWords) (p : Problem) (m : Model) (d : Decoded) : Type 0 where
  pub answered : IsAnswered shelf w p m
  pub decoded : IsDecoded p m d

-- in the order of a run: the problem's text, and the bound if one is given; the solver's text; whether that says that there is a model; the first statement that the values violate
pub data StopsDecode (shelf : Shelf) (w : DecodeWords) : Outcome → Type 0 where
  unread : (answer : Outcome) → IsUnread shelf w.opb (RefusesOpb w.bound) answer → StopsDecode shelf w answer
  unanswered : (p : Problem) (answer : Outcome) → IsDenoted shelf w.opb w.bound p → IsUnread shelf w.model (RefusesModel p.vars) answer → StopsDecode shelf w answer
  no_model : (p : Problem) (m : Model) → ComesTo shelf w p m decoded.NoModel → StopsDecode shelf w outcome.NoModel
  violated : (p : Problem) (m : Model) (statement : ℕ) → ComesTo shelf w p m (decoded.Violates statement) → StopsDecode shelf w (outcome.NotASolution statement)

-- the text of a solution is said; both texts are read whole, the solver's once there is a problem
abbrev pub decode_spec : DecodeWords → CommandSpec
decode_spec w = record {
  texts = record { kind = Opb; name = w.opb } ∷ record { kind = ModelText; name = w.model } ∷ [];
  leaves_open = λ shelf taken ended. (IsUnended 0 w.opb taken ended × (taken 1 w.model ≡ None)) ⊎ ((p : Problem) × IsDenoted shelf w.opb w.bound p × IsUnended 1 w.model taken ended);
  stops = λ shelf answer. StopsDecode shelf w answer;
  done = λ shelf out. (p : Problem) × (m : Model) × ComesTo shelf w p m decoded.Solution × (out ≡ only_words (solution_text p m.values));
}
