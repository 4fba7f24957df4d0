-- What decoding and listing names answer. Our own.
use Rattle.std.specs.Prelude.{ℕ, ℤ, ◌≡◌, List, length, Option, None, Ok}
use Rattle.pb_base.specs.declared.problem.Problem.{Problem}
use Rattle.pb_model.specs.declared.decoding.Decoded.TheVariants as decoded
use Rattle.pb_model.specs.declared.model.Model.{Model}
use Rattle.pb_model.specs.Decoding.{IsDecoded}
use Rattle.pb_model.specs.MapText.{map_text}
use Rattle.pb_model.specs.ModelReading.{told}
use Rattle.pb_model.specs.SolutionText.{solution_text}
use Rattle.pb_suite.specs.declared.outcome.Outcome.{Outcome}
use Rattle.pb_suite.specs.declared.outcome.Outcome.TheVariants as outcome
use Rattle.pb_suite.specs.Denoted.{Denotes}
use Rattle.pb_suite.specs.Refusals.{RefusesModel, RefusesOpb}
use Rattle.pbcnf_c.specs.Rooms.{Ends}

-- these words, and how many bytes they are
abbrev pub AreWords : List ℕ → List ℕ → ℕ → Type 0
AreWords due words count = (words ≡ due) × (count ≡ length words)

-- ---- of a problem and a model

-- the solution is put, or memory was wanting
abbrev pub SaysAnswer : Problem → Model → List ℕ → List ℕ → ℕ → Outcome → Type 0
SaysAnswer p m old new count answer = Ends (AreWords (solution_text p m.values)) (λ a. a ≡ outcome.NoMemory) 0 old new count answer

-- why a model gives no solution: it is none; the first statement that its values violate; or memory was wanting
pub data GivesNone (p : Problem) (m : Model) : Outcome → Type 0 where
  no_model : IsDecoded p m decoded.NoModel → GivesNone p m outcome.NoModel
  violated : (statement : ℕ) → IsDecoded p m (decoded.Violates statement) → GivesNone p m (outcome.NotASolution statement)
  no_memory : GivesNone p m outcome.NoMemory

-- the words are those of the solution that the model gives
pub record IsSolutionSaid (p : Problem) (m : Model) (words : List ℕ) (count : ℕ) : Type 0 where
  pub decoded_is : IsDecoded p m decoded.Solution
  pub words_are : words ≡ solution_text p m.values
  pub count_is : count ≡ length words

-- the solution that the model gives is put
abbrev pub Concludes : Problem → Model → List ℕ → List ℕ → ℕ → Outcome → Type 0
Concludes p m old new count answer = Ends (IsSolutionSaid p m) (GivesNone p m) 0 old new count answer

-- ---- of texts

-- the text denotes a problem, the solver's text tells a model of its variables, and the words are those of the solution that this gives
pub record IsSolutionOf (bound : Option ℤ) (text model words : List ℕ) (count : ℕ) : Type 0 where
  pub problem : Problem
  pub values : Model
  pub denotes : Denotes bound text problem
  pub tells : told problem.vars model ≡ Ok values
  pub said : IsSolutionSaid problem values words count

-- In this order: the text is refused, or the bound is too heavy; the solver's text is refused; it gives no solution. Or memory was wanting.
pub data StopsDecoding (bound : Option ℤ) (text model : List ℕ) : Outcome → Type 0 where
  bad_problem : (answer : Outcome) → RefusesOpb bound text answer → StopsDecoding bound text model answer
  bad_model : (p : Problem) (answer : Outcome) → Denotes bound text p → RefusesModel p.vars model answer → StopsDecoding bound text model answer
  none : (p : Problem) (m : Model) (answer : Outcome) → Denotes bound text p → told p.vars model ≡ Ok m → GivesNone p m answer → StopsDecoding bound text model answer
  no_memory : StopsDecoding bound text model outcome.NoMemory

-- The solution is put, or its length told, or why there is none.
abbrev pub DecodesInto : Option ℤ → List ℕ → List ℕ → List ℕ → List ℕ → ℕ → Outcome → Type 0
DecodesInto bound text model old new count answer = Ends (IsSolutionOf bound text model) (StopsDecoding bound text model) 0 old new count answer

-- ---- names

-- the names are put, or memory was wanting
abbrev pub SaysNames : Problem → List ℕ → List ℕ → ℕ → Outcome → Type 0
SaysNames p old new count answer = Ends (AreWords (map_text p)) (λ a. a ≡ outcome.NoMemory) 0 old new count answer

-- the text denotes a problem, and the words are a line for each of its free names
pub record AreNamesOf (text words : List ℕ) (count : ℕ) : Type 0 where
  pub problem : Problem
  pub denotes : Denotes None text problem
  pub words_are : words ≡ map_text problem
  pub count_is : count ≡ length words

-- the text is refused, or memory was wanting
pub data StopsMapping (text : List ℕ) : Outcome → Type 0 where
  refused : (answer : Outcome) → RefusesOpb None text answer → StopsMapping text answer
  no_memory : StopsMapping text outcome.NoMemory

-- The names are put, or their length told, or why there are none.
abbrev pub MapsInto : List ℕ → List ℕ → List ℕ → ℕ → Outcome → Type 0
MapsInto text old new count answer = Ends (AreNamesOf text) (StopsMapping text) 0 old new count answer
