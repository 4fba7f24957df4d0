-- Which reifications may be added to a database, and what they leave there. These serve the proofs that derivations run.
use Rattle.std.specs.Prelude.{◌≤◌, ◌<◌, ◌+◌, ◌^◌, ℕ, List, [], ◌∷◌, All, AllPairs}
use Rattle.pb_norm.specs.Constraints.{AllPositive, weight}
use Rattle.pb_steps.specs.Database.{Database}
use Rattle.pb_derive.specs.Forms.{AreApartTerms}
use Rattle.pb_derive.specs.Later.{IsOther, IsUnnamed, Knows}
use Rattle.pb_derive.specs.Reifications.{Reification, forward_of, reverse_of}

-- a reification by itself
pub record IsReification (original vars : ℕ) (m : Reification) : Type 0 where
  pub fresh : original < m.var
  pub known : m.var ≤ vars
  pub sum_known : All (λ t. t.lit.var ≤ vars) m.sum
  pub apart : AreApartTerms m.sum
  pub positive : AllPositive m.sum
  pub other : All (IsOther m.var) m.sum
  pub some : 1 ≤ m.least
  pub light : weight m.sum + m.least < 2 ^ 124

-- the reification does not name the other's variable
abbrev pub NamesNot : Reification → Reification → Type 0
NamesNot m n = All (IsOther n.var) (forward_of m).terms

-- reifications that may be added to a database one after the other, over variables that meet P
pub record AreReifications (P : ℕ → Type 0) (db : Database) (ms : List Reification) : Type 0 where
  pub each : All (IsReification db.original db.vars) ms
  pub named : All (λ m. All (λ t. P t.lit.var) (forward_of m).terms) ms
  pub unnamed : All (λ m. IsUnnamed m.var db) ms
  pub in_order : AllPairs NamesNot ms

-- the database has the two constraints of the reification, the second where the sum can reach the number
pub record IsMeant (db : Database) (id : ℕ) (m : Reification) : Type 0 where
  pub first : Knows db id (forward_of m)
  pub second : m.least ≤ weight m.sum → Knows db (id + 1) (reverse_of m)

abbrev pub AreMeant : Database → ℕ → List Reification → Type 0
AreMeant db id [] = Unit {0}
AreMeant db id (m ∷ ms) = IsMeant db id m × AreMeant db (id + 2) ms
