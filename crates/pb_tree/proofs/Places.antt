-- Where a value of a list stands.
use Rattle.std.proofs.Common.{◌≡◌, ◌<◌, ◌+◌, ℕ, Bool, cond, not, List, [], ◌∷◌, length, get_or, ap, ◌∙◌, arith, inl, inr, suc}
use Rattle.std.specs.Prelude.{Contains}
use Rattle.std.proofs.lemmas.Bool.{cases_eq, eq-eqb, ne_eqb}
use Rattle.pb_tree.specs.Places.{place_of}
use Rattle.pb_base.proofs.Members.{Contains-nil, Contains-cons_cases}

pub place-here : (u v : ℕ) (us : List ℕ) → v ≡ u → place_of u (v ∷ us) ≡ 0
place-here u v us same = ap (λ (b : Bool). cond (not b) (1 + place_of u us) 0) (eq-eqb v u same)

pub place-there : (u v : ℕ) (us : List ℕ) → (v ≡ u → ⊥) → place_of u (v ∷ us) ≡ 1 + place_of u us
place-there u v us other = ap (λ (b : Bool). cond (not b) (1 + place_of u us) 0) (ne_eqb v u other)

pub place_within : (u : ℕ) (us : List ℕ) → Contains us u → place_of u us < length us
place_within u [] h = absurd (Contains-nil u h)
place_within u (v ∷ us) h =
    elim (cases_eq v u) as (λ _. place_of u (v ∷ us) < length (v ∷ us)) [
      | inl same ↦ let here = place-here u v us same in omega arith
      | inr other ↦
          let there = place-there u v us other in
          elim (Contains-cons_cases v us u h) as (λ _. place_of u (v ∷ us) < length (v ∷ us)) [
            | inl same ↦ absurd (other same)
            | inr rest ↦ let within = place_within u us rest in omega arith
          ]
    ]

pub at_place : (u : ℕ) (us : List ℕ) (d : ℕ) → Contains us u → get_or us (place_of u us) d ≡ u
at_place u [] d h = absurd (Contains-nil u h)
at_place u (v ∷ us) d h =
    elim (cases_eq v u) as (λ _. get_or (v ∷ us) (place_of u (v ∷ us)) d ≡ u) [
      | inl same ↦ ap (λ (k : ℕ). get_or (v ∷ us) k d) (place-here u v us same) ∙ same
      | inr other ↦
          elim (Contains-cons_cases v us u h) as (λ _. get_or (v ∷ us) (place_of u (v ∷ us)) d ≡ u) [
            | inl same ↦ absurd (other same)
            | inr rest ↦ ap (λ (k : ℕ). get_or (v ∷ us) k d) (place-there u v us other ∙ (let e : 1 + place_of u us ≡ suc (place_of u us) = omega arith in e)) ∙ at_place u us d rest
          ]
    ]
