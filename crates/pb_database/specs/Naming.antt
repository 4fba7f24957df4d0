-- Constraints by the variables that they have.
use Rattle.std.specs.Prelude.{◌≡◌, ◌≤◌, ◌<◌, ◌==◌, ℕ, Bool, true, false, List, Option, Some, None, Contains}
use Rattle.std.specs.List.{list_any}
use Rattle.pb_norm.specs.Constraints.{Weighted, Constraint}
use Rattle.pb_steps.specs.Database.{Entry, Database, constraint_at}

abbrev pub is_of : ℕ → Weighted → Bool
is_of v t = t.lit.var == v

abbrev pub names_var : ℕ → Option Constraint → Bool
names_var v None = false
names_var v (Some c) = list_any (is_of v) c.terms

-- the constraint with an id has the variable
abbrev pub names_at : List Entry → ℕ → ℕ → Bool
names_at live v id = names_var v (constraint_at live id)

-- no constraint with an id from a number on has the variable
abbrev pub IsUnnamed : Database → ℕ → ℕ → Type 0
IsUnnamed db v from = (k : ℕ) → from ≤ k → k < db.next → names_at db.live v k ≡ false

-- the least id from a number on
pub record IsFirstNaming (live : List Entry) (v from id : ℕ) : Type 0 where
  pub low : from ≤ id
  pub names : names_at live v id ≡ true
  pub first : (k : ℕ) → from ≤ k → k < id → names_at live v k ≡ false

-- the ids have all whose constraints have the variable
abbrev pub HasNaming : List Entry → ℕ → List ℕ → Type 0
HasNaming live v ids = (id : ℕ) → names_at live v id ≡ true → Contains ids id
