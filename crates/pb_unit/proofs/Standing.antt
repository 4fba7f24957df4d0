-- Constraints by their places.
use Rattle.std.proofs.Common.{◌≡◌, ◌<◌, ◌⊎◌, inl, inr, ℕ, zero, suc, List, [], ◌∷◌, Option, Some, None, arith, length, get_or, map, refl, ap, subst}
use Rattle.std.specs.Prelude.{Contains}
use Rattle.std.proofs.lemmas.Option.{get_or_from_slice_get, slice_get_read}
use Rattle.pb_norm.specs.Constraints.{Constraint}
use Rattle.pb_unit.specs.States.{standing, Stands}

pub contains_head : {X : Type 0} (x : X) (xs : List X) → Contains (x ∷ xs) x
contains_head x xs = (0, omega arith, refl)

pub contains_tail : {X : Type 0} (y : X) (xs : List X) (x : X) → Contains xs x → Contains (y ∷ xs) x
contains_tail y xs x (k, below, at) = (suc k, omega (arith, below), at)

pub contains_cases : {X : Type 0} (y : X) (xs : List X) (x : X) → Contains (y ∷ xs) x → (y ≡ x) ⊎ Contains xs x
contains_cases y xs x (zero, below, at) = inl at
contains_cases y xs x (suc k, below, at) = inr (k, omega (arith, below), at)

pub stands_contains : (ps : List (Option Constraint)) (p : ℕ) (c : Constraint) → Stands ps p c → Contains (standing ps) c
stands_contains [] zero c e = let no : ⊥ = cc in absurd no
stands_contains [] (suc p) c e = let no : ⊥ = cc in absurd no
stands_contains (None ∷ ps) zero c e = let no : ⊥ = cc in absurd no
stands_contains (None ∷ ps) (suc p) c e = stands_contains ps p c e
stands_contains (Some d ∷ ps) zero c e = let same : d ≡ c = cc in subst (Contains (d ∷ standing ps)) same (contains_head d (standing ps))
stands_contains (Some d ∷ ps) (suc p) c e = contains_tail d (standing ps) c (stands_contains ps p c e)

-- no two constraints stand at a place
pub stands_one : (ps : List (Option Constraint)) (p : ℕ) (c d : Constraint) → Stands ps p c → Stands ps p d → c ≡ d
stands_one ps p c d at at_d = cc (at, at_d)

pub contains_stands : (ps : List (Option Constraint)) (c : Constraint) → Contains (standing ps) c → (p : ℕ) × Stands ps p c
contains_stands [] c h = absurd (omega (arith, h.1))
contains_stands (None ∷ ps) c h = let r = contains_stands ps c h in (suc r.0, r.1)
contains_stands (Some d ∷ ps) c h = elim (contains_cases d (standing ps) c h) [
  | inl e ↦ (0, ap (λ (x : Constraint). Some x) e)
  | inr rest ↦ let r = contains_stands ps c rest in (suc r.0, r.1)
]

pub standing_all : (cs : List Constraint) → standing (map Some cs) ≡ cs
standing_all [] = refl
standing_all (c ∷ cs) = ap (λ (ds : List Constraint). c ∷ ds) (standing_all cs)

-- what was read at a place, with another default
pub read_as : {X : Type 0} (xs : List X) (i : ℕ) (x d : X) → i < length xs → x ≡ get_or xs i x → get_or xs i d ≡ x
read_as xs i x d below e = get_or_from_slice_get xs i x d (slice_get_read xs (length xs) i x refl below e)
