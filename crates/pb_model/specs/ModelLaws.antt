-- What is told, without going through a text: what it says where nothing in it is wrong, else the first that is.
use Rattle.std.specs.Prelude.{◌≡◌, ◌↔◌, ℕ, List, ◌∷◌, ◌++◌, Some, None, Ok, Err}
use Rattle.pb_model.specs.declared.fault.ModelFault.{ModelFault}
use Rattle.pb_model.specs.declared.model.Model.{Model}
use Rattle.pb_model.specs.ModelLines.{Symbol}
use Rattle.pb_model.specs.ModelReading.{fault_at, model_in, told_in}

-- nothing is wrong behind what stands before it
abbrev pub IsFine : List Symbol → Type 0
IsFine ss = (before : List Symbol) (here : Symbol) (after : List Symbol) → ss ≡ before ++ here ∷ after → fault_at before here ≡ None

-- this is wrong behind what stands before it, where nothing is
pub record IsFirstFault (ss : List Symbol) (f : ModelFault) : Type 0 where
  pub before : List Symbol
  pub here : Symbol
  pub after : List Symbol
  pub cut : ss ≡ before ++ here ∷ after
  pub fine : IsFine before
  pub wrong : fault_at before here ≡ Some f

-- a model is told exactly where nothing is wrong, and a fault exactly where it is the first
pub record TellsExactly (vars : ℕ) (ss : List Symbol) : Type 0 where
  pub model : (m : Model) → (told_in vars ss ≡ Ok m) ↔ (IsFine ss × (m ≡ model_in vars ss))
  pub fault : (f : ModelFault) → (told_in vars ss ≡ Err f) ↔ IsFirstFault ss f

abbrev pub ToldExactly : Type 0
ToldExactly = (vars : ℕ) (ss : List Symbol) → TellsExactly vars ss
