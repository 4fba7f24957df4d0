-- What a reader keeps of the symbols behind it, as the functions that take them say to each other.
use Rattle.std.specs.Prelude.{◌≡◌, ℕ, ◌+◌, ◌<◌, true, false, List, ◌∷◌, ◌++◌, [], slice_index_or, Some, None, Result, Ok, Err}
use Rattle.std.specs.List.{list_any}
use Rattle.pb_base.specs.declared.place.Place.{Place}
use Rattle.pb_model.specs.declared.fault.ModelFault.{ModelFault}
use Rattle.pb_model.specs.declared.listing.Listing.{Listing}
use Rattle.pb_model.specs.declared.model.Model.{Model}
use Rattle.pb_model.specs.declared.reader.Reader.{Reader}
use Rattle.pb_model.specs.ModelLines.{Symbol}
use Rattle.pb_model.specs.ModelLines.Symbol.{end}
use Rattle.pb_model.specs.ModelReading.{is_listed, says_in, opens_values, ends_values, fault_at, first_fault, model_in}

-- the literals that are listed, of each sign
pub record Lists (ss : List Symbol) (l : Listing) : Type 0 where
  pub positive : (k : ℕ) → k < l.vars → slice_index_or l.listed.items k false ≡ is_listed ss (record { var = k + 1; positive = true })
  pub negative : (k : ℕ) → k < l.vars → slice_index_or l.denied.items k false ≡ is_listed ss (record { var = k + 1; positive = false })

pub record Knows (vars : ℕ) (ss : List Symbol) (r : Reader) : Type 0 where
  pub vars_are : r.listing.vars ≡ vars
  pub listed : Lists ss r.listing
  pub says : r.says ≡ says_in ss
  pub begun : r.begun ≡ list_any opens_values ss
  pub ended : r.ended ≡ list_any ends_values ss

-- more symbols are taken behind others, or the first fault of them is answered
abbrev pub TakesBy : ℕ → List Symbol → List Symbol → Reader → Result (Unit {0}) ModelFault → Type 0
TakesBy vars ss more r (Ok _) = (first_fault ss more ≡ None) × Knows vars (ss ++ more) r
TakesBy vars ss more r (Err fault) = first_fault ss more ≡ Some fault

-- the same by a reader that knew any others
abbrev pub Takes : (ℕ → List Symbol) → Reader → Reader → Result (Unit {0}) ModelFault → Type 0
Takes more old new result = (vars : ℕ) (ss : List Symbol) → Knows vars ss old → TakesBy vars ss (more vars) new result

-- what the symbols say that end there, or the fault of the end
abbrev pub ConcludesBy : ℕ → List Symbol → Place → Result Model ModelFault → Type 0
ConcludesBy vars ss place (Ok m) = (fault_at ss (end place) ≡ None) × (m ≡ model_in vars (ss ++ end place ∷ []))
ConcludesBy vars ss place (Err fault) = fault_at ss (end place) ≡ Some fault
