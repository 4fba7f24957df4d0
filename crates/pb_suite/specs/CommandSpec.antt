-- What specifies a command, and what may hinder it. Our own.
use Rattle.std.specs.Prelude.{ℕ, Bool, false, ◌-◌, ◌^◌, ◌⊎◌, ◌≡◌, ◌≤◌, if◌then◌else◌, List, [], ◌∷◌, All, Contains, take, length, Option, Some, None, IfSome, IsNone, IsSome}
use Rattle.std.specs.Option.{ForSome, unwrap_or}
use Rattle.pb_base.specs.declared.file.File.{File}
use Rattle.pb_desk.specs.View.{Made, Told, View}
use Rattle.pb_desk.specs.Desk.{DeskState, IsTold}
use Rattle.pb_suite.specs.declared.outcome.Outcome.{Outcome}
use Rattle.pb_suite.specs.declared.outcome.Outcome.TheVariants.{ReadFault}
use Rattle.pb_suite.specs.Outputs.{nothing, Fits, IsPartOf, LacksFor, Output}

abbrev pub Shelf : Type 0
Shelf = List ℕ → Option (List ℕ)

-- a text that is read
pub record Text : Type 0 where
  pub kind : File
  pub name : List ℕ

-- one of the texts is of this kind
abbrev pub HasKind : File → List Text → Type 0
HasKind kind [] = ⊥
HasKind kind (text ∷ texts) = (text.kind ≡ kind) ⊎ HasKind kind texts

-- what was taken of a text, by its reading slot and its name, where that slot is open
abbrev pub Taken : Type 0
Taken = ℕ → List ℕ → Option (List ℕ)

-- as a desk tells it: the first bytes of the text, which the slot has no more
abbrev pub taken_in : View → Told → Taken
taken_in view t slot name = if view.reading slot then (let text = unwrap_or (t.shelf name) [] in Some (take (length text - length (t.left slot)) text)) else None

-- of which reading slots the end was met
abbrev pub Ended : Type 0
Ended = ℕ → Bool

-- Of a text that is read whole there was more to read: its slot is not open; or its end was not met, and no more was taken than a text may have.
abbrev pub IsUnended : ℕ → List ℕ → Taken → Ended → Type 0
IsUnended slot name taken ended = IfSome (taken slot name) (λ bytes. (ended slot ≡ false) × (length bytes ≤ 2 ^ 32))

-- The texts that are read; whether what was taken of them, and which ends were met, leaves open how the command ends; with which outcomes it stops, so that nothing is made or said; and what is made and said where all is done.
pub record CommandSpec : Type 1 where
  pub texts : List Text
  pub leaves_open : Shelf → Taken → Ended → Type 0
  pub stops : Shelf → Outcome → Type 0
  pub done : Shelf → Output → Type 0

-- what may stand where a write failed or memory was wanting: nothing, or a first part of what is due
abbrev pub MayStand : CommandSpec → Shelf → Output → Type 0
MayStand o shelf out = (out ≡ nothing) ⊎ ((whole : Output) × o.done shelf whole × IsPartOf whole out)

-- a text is not on the shelf, and the command stops there
abbrev pub LacksText : CommandSpec → DeskState → Type 0
LacksText o desk = (text : Text) × Contains o.texts text × IsTold desk (λ t. IsNone (t.shelf text.name)) × IsTold desk (λ t. o.stops t.shelf ReadFault)

-- something is lacking for what is due
abbrev pub LacksSpace : CommandSpec → DeskState → Type 0
LacksSpace o desk = (out : Output) × IsTold desk (λ t. o.done t.shelf out) × LacksFor out desk

-- what is called for is there: the texts, short names, and room for what is due
pub record Suffices (o : CommandSpec) (shelf : Shelf) (space : Option ℕ) : Type 0 where
  pub texts : All (λ (text : Text). IsSome (shelf text.name)) o.texts
  pub names : (out : Output) → o.done shelf out → All (λ (file : Made). length file.name ≤ 255) out.made
  pub room : (out : Output) → o.done shelf out → ForSome space (λ most. Fits most out)
