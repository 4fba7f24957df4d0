-- Databases that steps leave: what stood before still stands, and what is new names only some variables (our own).
use Rattle.std.specs.Prelude.{◌≡◌, ◌≢◌, ◌≤◌, ◌<◌, ◌⊎◌, ℕ, true, false, Some, All}
use Rattle.pb_norm.specs.Constraints.{Weighted, Constraint}
use Rattle.pb_steps.specs.Database.{Database, constraint_at}
use Rattle.pb_derive.specs.Forms.{IsFormOf}

-- the variable of the term is another
abbrev pub IsOther : ℕ → Weighted → Type 0
IsOther v t = v ≢ t.lit.var

-- no constraint that stands names the variable
abbrev pub IsUnnamed : ℕ → Database → Type 0
IsUnnamed v db = All (λ e. All (IsOther v) e.constraint.terms) db.live

-- the next id is above all
abbrev pub IsNumbered : Database → Type 0
IsNumbered db = All (λ e. e.id < db.next) db.live

-- the constraint with an id is one whose terms are given in any order
abbrev pub Knows : Database → ℕ → Constraint → Type 0
Knows db id s = (c : Constraint) × (constraint_at db.live id ≡ Some c) × IsFormOf s c

-- What stood under its id before still does. A variable that is named only now meets P.
pub record IsLater (P : ℕ → Type 0) (db end : Database) : Type 0 where
  pub original : end.original ≡ db.original
  pub vars : end.vars ≡ db.vars
  pub next : db.next ≤ end.next
  pub numbered : IsNumbered end
  pub stands : (id : ℕ) → id < db.next → constraint_at end.live id ≡ constraint_at db.live id
  pub unnamed : (v : ℕ) → ¬ (P v) → IsUnnamed v db → IsUnnamed v end

-- no constraint with an id from a number to another was put out
abbrev pub IsUnmarked : ℕ → ℕ → Database → Type 0
IsUnmarked n m db = All (λ e. n ≤ e.id → e.id < m → e.out ≡ false) db.live

-- each constraint that stands has an id that meets S, or was put out
abbrev pub IsSwept : (ℕ → Type 0) → Database → Type 0
IsSwept S db = All (λ e. S e.id ⊎ (e.out ≡ true)) db.live
