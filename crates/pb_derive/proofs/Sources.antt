-- One or two constraints that are added, and literals of short clauses.
use Rattle.std.proofs.Common.{◌≡◌, ◌||◌, ◌⊎◌, inl, inr, ℕ, true, false, [], ◌∷◌}
use Rattle.std.specs.Prelude.{Contains}
use Rattle.std.proofs.lemmas.Bool.{cases_Bool, or_parts}
use Rattle.pb_base.specs.declared.literal.Lit.{Lit}
use Rattle.pb_base.specs.Literals.{is_same, is_among}
use Rattle.pb_base.proofs.Members.{Contains-nil, Contains-cons_cases}

-- a literal is one of two, or neither
pub cases_two : (x y l : Lit) → (is_among (x ∷ y ∷ []) l ≡ true) ⊎ ((is_same x l ≡ false) × (is_same y l ≡ false))
cases_two x y l =
    elim (cases_Bool (is_among (x ∷ y ∷ []) l)) as (λ _. (is_among (x ∷ y ∷ []) l ≡ true) ⊎ ((is_same x l ≡ false) × (is_same y l ≡ false))) [
      | inl among ↦ inl among
      | inr none ↦
          let parts = or_parts (is_same x l) (is_same y l || false) none in
          inr (parts.0, (or_parts (is_same y l) false parts.1).0)
    ]

pub cases_three : (x y z l : Lit) → (is_among (x ∷ y ∷ z ∷ []) l ≡ true) ⊎ ((is_same x l ≡ false) × (is_same y l ≡ false) × (is_same z l ≡ false))
cases_three x y z l =
    elim (cases_Bool (is_among (x ∷ y ∷ z ∷ []) l)) as (λ _. (is_among (x ∷ y ∷ z ∷ []) l ≡ true) ⊎ ((is_same x l ≡ false) × (is_same y l ≡ false) × (is_same z l ≡ false))) [
      | inl among ↦ inl among
      | inr none ↦
          let parts = or_parts (is_same x l) (is_same y l || (is_same z l || false)) none in
          let more = or_parts (is_same y l) (is_same z l || false) parts.1 in
          inr (parts.0, more.0, (or_parts (is_same z l) false more.1).0)
    ]

pub only : (v w : ℕ) → Contains (v ∷ []) w → v ≡ w
only v w h = elim (Contains-cons_cases v [] w h) as (λ _. v ≡ w) [ inl e ↦ e | inr none ↦ absurd (Contains-nil w none) ]
