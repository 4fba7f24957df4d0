-- The constraints that stand while a derivation is checked (as in VeriPB; Gocht 2022).
-- A database is a list of entries by ascending ids, each with its constraint and a mark if its clause was put out. A list of these
-- ids besides would fix an order that no rule asks for. If `del` names an id twice, the second one is the unknown one.
use Rattle.std.specs.Prelude.{◌+◌, ◌==◌, ◌||◌, ℕ, Bool, false, not, List, [], ◌∷◌, ◌++◌, Option, Some, None, is_some, map, filter, length, IsTrue, if◌then◌else◌}
use Rattle.std.specs.List.{list_any}
use Rattle.pb_norm.specs.Constraints.{Constraint}

-- a constraint under its number, and whether it was put out
pub record Entry : Type 0 where
  pub id : ℕ
  pub constraint : Constraint
  pub out : Bool

-- the problem's variables and all of them, the constraints that stand by ascending ids, and the next id
pub record Database : Type 0 where
  pub original : ℕ
  pub vars : ℕ
  pub live : List Entry
  pub next : ℕ

abbrev pub live_constraints : List Entry → List Constraint
live_constraints es = map (λ e. e.constraint) es

abbrev pub constraint_at : List Entry → ℕ → Option Constraint
constraint_at [] id = None
constraint_at (e ∷ es) id = if e.id == id then Some e.constraint else constraint_at es id

abbrev pub is_live : List Entry → ℕ → Bool
is_live es id = is_some (constraint_at es id)

abbrev pub IsLive : List Entry → ℕ → Type 0
IsLive es id = IsTrue (is_live es id)

-- the constraint with a number was put out
abbrev pub is_out : List Entry → ℕ → Bool
is_out [] id = false
is_out (e ∷ es) id = if e.id == id then e.out else is_out es id

abbrev pub is_listed : List ℕ → ℕ → Bool
is_listed ids id = list_any (λ i. i == id) ids

-- those whose numbers are not listed
abbrev pub without : List ℕ → List Entry → List Entry
without ids es = filter (λ e. not (is_listed ids e.id)) es

-- a constraint that was not put out
abbrev pub entry : ℕ → Constraint → Entry
entry id c = record { id = id; constraint = c; out = false }

-- one more constraint, under the next number
abbrev pub grown : Database → Constraint → Database
grown db c = record db { live = db.live ++ entry db.next c ∷ []; next = db.next + 1 }

abbrev pub reduced : Database → List ℕ → Database
reduced db ids = record db { live = without ids db.live }

abbrev pub mark : ℕ → Entry → Entry
mark id e = record e { out = e.id == id || e.out }

-- one more that was put out
abbrev pub marked : Database → ℕ → Database
marked db id = record db { live = map (mark id) db.live }

abbrev pub numbered_from : ℕ → List Constraint → List Entry
numbered_from n [] = []
numbered_from n (c ∷ cs) = entry n c ∷ numbered_from (n + 1) cs

-- the database of the loaded constraints
abbrev pub loaded_database : ℕ → ℕ → List Constraint → Database
loaded_database original vars loaded = record { original = original; vars = vars; live = numbered_from 1 loaded; next = length loaded + 1 }
