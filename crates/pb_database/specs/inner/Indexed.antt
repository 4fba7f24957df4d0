-- Ids by the variables that constraints have.
use Rattle.std.specs.Prelude.{◌≡◌, ◌≤◌, ◌<◌, ◌%◌, ℕ, true, List, [], Option, Some, None, All, Contains, length, slice_index_or, nat_le, if◌then◌else◌}
use Rattle.pb_steps.specs.Database.{Entry}
use Rattle.pb_database.specs.Naming.{names_var, names_at}
use Rattle.pb_database.specs.declared.slots.Slot.{Slot}
use Rattle.pb_database.specs.inner.Slots.{slot_of}

-- the ids in the list of a number
abbrev pub ids_at : List (List ℕ) → ℕ → List ℕ
ids_at lists n = slice_index_or lists n []

-- the ids that are listed for a variable; variables share a list where there are more of them than lists
abbrev pub ids_of : List (List ℕ) → ℕ → List ℕ
ids_of lists v = ids_at lists (v % length lists)

-- each constraint that stands is listed for each of its variables beyond the original ones
pub record IsIndexed (original : ℕ) (ss : List Slot) (lists : List (List ℕ)) : Type 0 where
  pub enough : 0 < length lists
  pub complete : (id v : ℕ) → original < v → names_var v (slot_of ss id).constraint ≡ true → Contains (ids_of lists v) id

-- the lists have the same ids, and perhaps more
pub record KeepsIds (before after : List (List ℕ)) : Type 0 where
  pub size : length after ≡ length before
  pub more : (n id : ℕ) → Contains (ids_at before n) id → Contains (ids_at after n) id

-- the lists have the same ids but for one, and perhaps more
pub record LosesId (id : ℕ) (before after : List (List ℕ)) : Type 0 where
  pub size : length after ≡ length before
  pub others : (n k : ℕ) → (k ≡ id → ⊥) → Contains (ids_at before n) k → Contains (ids_at after n) k

-- the least of the items of which something holds, if there is one
abbrev pub IsLeast : (ℕ → Type 0) → List ℕ → Option ℕ → Type 0
IsLeast P xs None = All (λ x. ¬ P x) xs
IsLeast P xs (Some best) = P best × All (λ x. P x → best ≤ x) xs

-- an id from a number on whose constraint has the variable
abbrev pub IsNaming : List Entry → ℕ → ℕ → ℕ → Type 0
IsNaming live v from id = (from ≤ id) × (names_at live v id ≡ true)

-- the number, or what was found before where that is not greater
abbrev pub lesser : Option ℕ → ℕ → Option ℕ
lesser None id = Some id
lesser (Some best) id = if nat_le best id then Some best else Some id
