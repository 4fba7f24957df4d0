-- Steps of propagation, as the code takes them.
use Rattle.std.specs.Prelude.{◌≡◌, ◌≤◌, ◌<◌, ◌+◌, ◌-◌, ◌⊎◌, ◌&&◌, ◌++◌, ℕ, Bool, true, not, nat_lt, if◌then◌else◌, List, [], ◌∷◌, Option, All}
use Rattle.pb_base.specs.declared.literal.Lit.{Lit}
use Rattle.pb_base.specs.Literals.{negated, is_among}
use Rattle.pb_norm.specs.Constraints.{Weighted, Constraint}
use Rattle.pb_norm.specs.Forced.{IsConsistent}
use Rattle.pb_norm.specs.Propagation.{room, Reached}
use Rattle.std.specs.Bool.{OnTrue, OnFalse}
use Rattle.pb_unit.specs.States.{Stands}
use Rattle.pb_unit.specs.Trails.{Held}

-- the list has the literal one way or the other
abbrev pub IsDecided : List Lit → Lit → Type 0
IsDecided ls l = (is_among ls l ≡ true) ⊎ (is_among ls (negated l) ≡ true)

abbrev pub IsAtRest : List Lit → ℕ → Weighted → Type 0
IsAtRest ls slack t = slack < t.coef → IsDecided ls t.lit

-- with this room the constraint has enough and needs no literal
pub record IsCalm (room : ℕ) (ls : List Lit) (c : Constraint) : Type 0 where
  pub enough : c.degree ≤ room
  pub closed : All (IsAtRest ls (room - c.degree)) c.terms

-- with this room or more the constraint is calm, whatever holds
pub record IsAlert (alert : ℕ) (c : Constraint) : Type 0 where
  pub degree : c.degree ≤ alert
  pub terms : All (λ t. t.coef + c.degree ≤ alert) c.terms

-- the list with the term's literal, where it is needed
abbrev pub with_needed : ℕ → Weighted → List Lit → List Lit
with_needed slack t ls = if nat_lt slack t.coef && not (is_among ls t.lit) && not (is_among ls (negated t.lit)) then t.lit ∷ ls else ls

abbrev pub with_all_needed : ℕ → List Weighted → List Lit → List Lit
with_all_needed slack [] ls = ls
with_all_needed slack (t ∷ ts) ls = with_all_needed slack ts (with_needed slack t ls)

-- newer literals came before a reached list
pub record Advances (cs : List Constraint) (given : List Lit) (before after : List Lit) : Type 0 where
  pub reached : Reached cs given before → Reached cs given after
  pub consistent : IsConsistent before → IsConsistent after
  pub kept : (l : Lit) → is_among before l ≡ true → is_among after l ≡ true
  pub more : List Lit
  pub extends : after ≡ more ++ before

-- the constraint at the place has too little room
pub record HasTooLittle (places : List (Option Constraint)) (ls : List Lit) (place : ℕ) : Type 0 where
  pub constraint : Constraint
  pub at : Stands places place constraint
  pub short : room ls constraint.terms < constraint.degree

-- how a visit with a room ends: the room is too little, and nothing joins
abbrev pub VisitShort : Bool → ℕ → Constraint → Held → Held → Type 0
VisitShort ok left c before after = OnFalse ok ((after ≡ before) × (left < c.degree))

-- or all literals join that are needed
abbrev pub VisitJoined : Bool → ℕ → Constraint → List Lit → List Lit → Type 0
VisitJoined ok left c before after = OnTrue ok ((c.degree ≤ left) × (after ≡ with_all_needed (left - c.degree) c.terms before))
