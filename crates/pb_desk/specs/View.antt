-- What a desk shows, but for its counts of faults, and what each call makes of it (our own).
-- The newest file comes first in the list of files that were made, so that a new one leaves the others as they are. The bytes of a
-- slot are those of its newest file, and one truth value, kept by `create`, says which of the two slots has the newer one.
use Rattle.std.specs.Prelude.{ℕ, Bool, true, false, ◌==◌, if◌then◌else◌, List, [], ◌∷◌, ◌++◌, drop}
use Rattle.std.specs.Option.{option_map, unwrap_or}
use Rattle.std.specs.declared.option.Option.{Option}

-- a created file, by the slot it was created in
pub record Made : Type 0 where
  pub slot : ℕ
  pub name : List ℕ
  pub bytes : List ℕ

-- what a telling desk tells: its shelf by names, what each reading slot has left, the created files with the
-- newest first, and what was said
pub record Told : Type 0 where
  pub shelf : List ℕ → Option (List ℕ)
  pub left : ℕ → List ℕ
  pub made : List Made
  pub said : List ℕ

-- which slots are open, what is told, the bytes that a file may hold, and whether the desk is steady
pub record View : Type 0 where
  pub reading : ℕ → Bool
  pub writing : ℕ → Bool
  pub told : Option Told
  pub room : Option ℕ
  pub steady : Bool

-- the function, with this value at that place
abbrev pub put : {X : Type 0} → (ℕ → X) → ℕ → X → ℕ → X
put f place value n = if n == place then value else f n

-- the files, with these bytes behind the newest of the slot
abbrev pub appended : ℕ → List ℕ → List Made → List Made
appended slot bytes [] = []
appended slot bytes (file ∷ files) =
    if file.slot == slot then record file { bytes = file.bytes ++ bytes } ∷ files else file ∷ appended slot bytes files

-- the bytes of the newest file of the slot
abbrev pub bytes_in : ℕ → List Made → List ℕ
bytes_in slot [] = []
bytes_in slot (file ∷ files) = if file.slot == slot then file.bytes else bytes_in slot files

-- what is told, if anything is, changes so
abbrev pub telling : (Told → Told) → View → View
telling change view = record view { told = option_map change view.told }

abbrev pub opened : ℕ → List ℕ → View → View
opened slot name view = telling (λ t. record t { left = put t.left slot (unwrap_or (t.shelf name) []) }) (record view { reading = put view.reading slot true })

abbrev pub taken : ℕ → ℕ → View → View
taken slot count view = telling (λ t. record t { left = put t.left slot (drop count (t.left slot)) }) view

abbrev pub created : ℕ → List ℕ → View → View
created slot name view =
    telling (λ t. record t { made = record { slot = slot; name = name; bytes = [] } ∷ t.made }) (record view { writing = put view.writing slot true })

abbrev pub wrote : ℕ → List ℕ → View → View
wrote slot bytes view = telling (λ t. record t { made = appended slot bytes t.made }) view

abbrev pub closed : ℕ → View → View
closed slot view = record view { writing = put view.writing slot false }

abbrev pub spoke : List ℕ → View → View
spoke bytes view = telling (λ t. record t { said = t.said ++ bytes }) view
