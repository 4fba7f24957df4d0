-- How the index of the first constraints is filled, a range of literals at a time. It serves proofs.
use Rattle.std.specs.Prelude.{◌≡◌, ◌≤◌, ◌<◌, ◌*◌, ◌+◌, ◌^◌, ◌++◌, ℕ, List, [], ◌∷◌, Option, Some, None, All, length}
use Rattle.pb_base.specs.declared.literal.Lit.{Lit}
use Rattle.pb_norm.specs.Constraints.{Weighted, Constraint, weight}
use Rattle.pb_unit.specs.declared.kept.Counters.{Counters}
use Rattle.pb_unit.specs.States.{Stands, at_place}
use Rattle.pb_unit.specs.Steps.{IsAlert}
use Rattle.pb_unit.specs.Index.{Lists, code, coef_of, sum_at, list_at, size_of, terms_at, room_at, AreAlerts, AreListed}

-- the terms of what stands at a place
abbrev pub terms_in : Option Constraint → List Weighted
terms_in None = []
terms_in (Some c) = c.terms

-- the room is all that the terms weigh, and with the alert no literal is needed
pub record IsKeptOf (o : Option Constraint) (k : Counters) : Type 0 where
  pub room : k.room ≡ weight (terms_in o)
  pub narrow : weight (terms_in o) ≤ 2 ^ 126
  pub alert : (c : Constraint) → o ≡ Some c → IsAlert k.alert c

-- each literal has a list
abbrev pub AreNumbered : Lists → List Weighted → Type 0
AreNumbered lists ts = All (λ t. code t.lit < size_of lists) ts

pub record IsInRange (low high : ℕ) (l : Lit) : Type 0 where
  pub from : low ≤ code l
  pub below : code l < high

-- the literal's occurrences add up to its coefficients, place by place
abbrev pub IsFilledAt : Lists → List (List Weighted) → Lit → Type 0
IsFilledAt lists inner l = (p : ℕ) → sum_at p (list_at lists l) ≡ coef_of (terms_at inner p) l

-- the literals of a range have the occurrences of these terms, and the others are as before
pub record IsFilling (low high : ℕ) (before after : Lists) (inner : List (List Weighted)) : Type 0 where
  pub size : size_of after ≡ size_of before
  pub filled : (l : Lit) → IsInRange low high l → IsFilledAt after inner l
  pub known : (l : Lit) → IsInRange low high l → All (λ o. o.place < length inner) (list_at after l)
  pub others : (l : Lit) → (IsInRange low high l → ⊥) → list_at after l ≡ list_at before l

-- one more term at the last place
abbrev pub AddsTerm : ℕ → ℕ → ℕ → Weighted → Lists → Lists → Type 0
AddsTerm low high place t lists lists' =
    (start : Lists) (front : List (List Weighted)) (ts : List Weighted) → length front ≡ place
    → IsFilling low high start lists (front ++ ts ∷ []) → IsFilling low high start lists' (front ++ (ts ++ t ∷ []) ∷ [])

-- one more place with these terms
abbrev pub AddsPlace : ℕ → ℕ → ℕ → List Weighted → Lists → Lists → Type 0
AddsPlace low high place ts lists lists' =
    (start : Lists) (front : List (List Weighted)) → length front ≡ place
    → IsFilling low high start lists front → IsFilling low high start lists' (front ++ ts ∷ [])

-- all literals have the occurrences of what stands
pub record IsFilled (vars : ℕ) (places : List (Option Constraint)) (lists : Lists) : Type 0 where
  pub width : size_of lists ≡ 2 * vars + 2
  pub sums : (l : Lit) (p : ℕ) → sum_at p (list_at lists l) ≡ coef_of (terms_in (at_place places p)) l
  pub known : (l : Lit) → All (λ o. o.place < length places) (list_at lists l)

-- the rooms are all that the terms weigh, and where that is little the place is listed
pub record AreLaid (places : List (Option Constraint)) (kept : List Counters) (tight : List ℕ) : Type 0 where
  pub even : length kept ≡ length places
  pub narrow : (p : ℕ) (c : Constraint) → Stands places p c → weight c.terms ≤ 2 ^ 126
  pub rooms : (p : ℕ) → room_at kept p ≡ weight (terms_in (at_place places p))
  pub alerts : AreAlerts places kept
  pub listed : AreListed places kept tight
