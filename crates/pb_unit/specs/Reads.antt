-- Lists of constraints, as they are read.
use Rattle.std.specs.Prelude.{◌≡◌, ℕ, List, Option, Some, All, length, map, slice_index_or, sum_by}
use Rattle.pb_base.specs.declared.literal.Term.{Term}
use Rattle.pb_norm.specs.Constraints.{Constraint, AreUnsigned, IsLinear, constraint_of, terms_of}
use Rattle.pb_unit.specs.States.{standing, Stands}

-- these are the terms and the degree of what stands at the place
abbrev pub ReadsAt : List (Option Constraint) → ℕ → List Term → ℕ → Type 0
ReadsAt places place ts degree = (c : Constraint) → Stands places place c → (ts ≡ terms_of c.terms) × (degree ≡ c.degree)

-- the same of the constraint at a place of a list
pub record IsRead (cs : List Constraint) (place : ℕ) (ts : List Term) (degree : ℕ) : Type 0 where
  pub at : constraint_of ts degree ≡ slice_index_or cs place (constraint_of ts degree)
  pub unsigned : AreUnsigned ts
  pub linear : IsLinear (constraint_of ts degree)

-- a constraint in normal form stands at each place
pub record IsWhole (places : List (Option Constraint)) : Type 0 where
  pub stand : places ≡ map Some (standing places)
  pub linear : All IsLinear (standing places)

-- how many literals constraints have
abbrev pub lit_count : List Constraint → ℕ
lit_count cs = sum_by (λ c. length c.terms) cs
