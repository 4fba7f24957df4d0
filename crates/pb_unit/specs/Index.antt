-- For each literal, the constraints in which it stands; and the room that is kept of each constraint.
use Rattle.std.specs.Prelude.{◌≡◌, ◌≤◌, ◌<◌, ◌+◌, ◌*◌, ◌^◌, ◌==◌, ℕ, cond, List, [], Option, length, All, sum_by, slice_index, slice_index_or, slice_range, map, filter, is_some, ◌++◌, ◌∷◌, IsNone, IfSome, Contains, ◌⊎◌}
use Rattle.pb_base.specs.declared.literal.Lit.{Lit}
use Rattle.pb_base.specs.Literals.{is_same}
use Rattle.pb_norm.specs.Constraints.{Weighted, Constraint, weight}
use Rattle.pb_norm.specs.Propagation.{room}
use Rattle.pb_unit.specs.declared.index.Occurrence.{Occurrence}
use Rattle.pb_unit.specs.declared.kept.Counters.{Counters}
use Rattle.pb_unit.specs.States.{Stands, at_place, standing}
use Rattle.pb_unit.specs.Steps.{IsCalm, IsAlert, Advances, HasTooLittle}

-- what a literal adds to the sum of the terms
abbrev pub coef_of : List Weighted → Lit → ℕ
coef_of ts l = sum_by (λ t. cond (is_same t.lit l) t.coef 0) ts

-- what the occurrences at a place add up to
abbrev pub sum_at : ℕ → List Occurrence → ℕ
sum_at place os = sum_by (λ (o : Occurrence). cond (o.place == place) o.coef 0) os

-- the number under which a literal's occurrences stand
abbrev pub code : Lit → ℕ
code l = 2 * l.var + cond l.positive 1 0

-- by the literals' numbers: sections of one list of places, where the coefficient is 1, and a list of all other occurrences
pub record Lists : Type 0 where
  pub starts : List ℕ
  pub ends : List ℕ
  pub units : List ℕ
  pub others : List (List Occurrence)

abbrev pub unit_at : ℕ → Occurrence
unit_at place = record { place = place; coef = 1 }

-- the part of one list that belongs to a number
abbrev pub section : List ℕ → List ℕ → List ℕ → ℕ → List ℕ
section starts ends units k = slice_range units (slice_index starts k) (slice_index ends k)

-- how many numbers there are
abbrev pub size_of : Lists → ℕ
size_of lists = length lists.ends

-- the places where the literal of a number has the coefficient 1, as far as they are listed so
abbrev pub units_at : Lists → ℕ → List ℕ
units_at lists = section lists.starts lists.ends lists.units

-- where else the literal stands
abbrev pub others_at : Lists → ℕ → List Occurrence
others_at lists k = slice_index_or lists.others k []

abbrev pub list_at : Lists → Lit → List Occurrence
list_at lists l = map unit_at (units_at lists (code l)) ++ others_at lists (code l)

abbrev pub IsAscending : List ℕ → Type 0
IsAscending ns = (j k : ℕ) → j ≤ k → k < length ns → slice_index ns j ≤ slice_index ns k

-- sections one after another, each with room up to the start of the next
pub record IsSectioned (starts ends units : List ℕ) : Type 0 where
  pub size : length starts ≡ length ends + 1
  pub ascending : IsAscending starts
  pub begins : (k : ℕ) → k < length ends → slice_index starts k ≤ slice_index ends k
  pub limits : (k : ℕ) → k < length ends → slice_index ends k ≤ slice_index starts (k + 1)
  pub within : slice_index starts (length ends) ≤ length units

-- the places of a list where a constraint stands
abbrev pub that_stand : List (Option Constraint) → List ℕ → List ℕ
that_stand places ps = filter (λ p. is_some (at_place places p)) ps

-- one more occurrence in a list
pub record HasOneMore (o : Occurrence) (less more : List Occurrence) : Type 0 where
  pub front : List Occurrence
  pub back : List Occurrence
  pub was : less ≡ front ++ back
  pub is : more ≡ front ++ o ∷ back

-- one more occurrence of a literal
pub record IsPushed (l : Lit) (o : Occurrence) (before after : Lists) : Type 0 where
  pub size : size_of after ≡ size_of before
  pub front : List Occurrence
  pub back : List Occurrence
  pub was : list_at before l ≡ front ++ back
  pub is : list_at after l ≡ front ++ o ∷ back
  pub elsewhere : (m : Lit) → (code m ≡ code l → ⊥) → list_at after m ≡ list_at before m

-- the same occurrences
pub record AreSame (before after : Lists) : Type 0 where
  pub size : size_of after ≡ size_of before
  pub lists : (l : Lit) → list_at after l ≡ list_at before l

abbrev pub terms_at : List (List Weighted) → ℕ → List Weighted
terms_at inner place = slice_index_or inner place []

abbrev pub room_at : List Counters → ℕ → ℕ
room_at kept place = (slice_index_or kept place (record { room = 0; alert = 0 })).room

abbrev pub alert_at : List Counters → ℕ → ℕ
alert_at kept place = (slice_index_or kept place (record { room = 0; alert = 0 })).alert

-- what stands at the place is calm with the room that is kept
abbrev pub IsCalmAt : List (Option Constraint) → List Counters → List Lit → ℕ → Type 0
IsCalmAt places kept ls place = (c : Constraint) → Stands places place c → IsCalm (room_at kept place) ls c

-- the room that is kept at the place is what stands there can still add, and so much more, or greater
abbrev pub HasRoom : List (Option Constraint) → List Counters → List Lit → ℕ → ℕ → Type 0
HasRoom places kept ls place more = (c : Constraint) → Stands places place c → room ls c.terms + more ≤ room_at kept place

-- each constraint that stands is calm with the room that is kept
abbrev pub AreCalm : List (Option Constraint) → List Counters → List Lit → Type 0
AreCalm places kept ls = (place : ℕ) → IsCalmAt places kept ls place

-- with the alert or more a constraint that stands is calm
abbrev pub AreAlerts : List (Option Constraint) → List Counters → Type 0
AreAlerts places kept = (place : ℕ) (c : Constraint) → Stands places place c → IsAlert (alert_at kept place) c

-- The index has the terms of each place, also of one whose constraint was removed, and the rooms count some literals
pub record IsCounted (vars : ℕ) (places : List (Option Constraint)) (lists : Lists) (kept : List Counters) (counted : List Lit) : Type 0 where
  pub inner : List (List Weighted)
  pub size : length kept ≡ length inner
  pub longer : length places ≤ length kept
  pub same : (p : ℕ) (c : Constraint) → Stands places p c → terms_at inner p ≡ c.terms
  pub narrow : (p : ℕ) → weight (terms_at inner p) ≤ 2 ^ 126
  pub width : size_of lists ≡ 2 * vars + 2
  pub sums : (l : Lit) (p : ℕ) → sum_at p (list_at lists l) ≡ coef_of (terms_at inner p) l
  pub known : (l : Lit) → All (λ o. o.place < length kept) (list_at lists l)
  pub rooms : (p : ℕ) → room_at kept p ≡ room counted (terms_at inner p)
  pub alerts : AreAlerts places kept

-- the rooms after some occurrences were taken from them
pub record AreLowered (os : List Occurrence) (before after : List Counters) : Type 0 where
  pub size : length after ≡ length before
  pub rooms : (p : ℕ) → room_at after p + sum_at p os ≡ room_at before p
  pub alerts : (p : ℕ) → alert_at after p ≡ alert_at before p

-- a literal was told to some of the constraints where its negation stands
pub record IsTold (places : List (Option Constraint)) (os : List Occurrence) (kept kept' : List Counters) (held held' : List Lit) (found : Option ℕ) : Type 0 where
  pub lowered : AreLowered os kept kept'
  pub advances : (given : List Lit) → Advances (standing places) given held held'
  pub calm : IsNone found → AreCalm places kept held → AreCalm places kept' held'
  pub short : IfSome found (HasTooLittle places held')

-- the same, with nothing counted, and these terms at the place
pub record IsEntered (vars : ℕ) (places : List (Option Constraint)) (lists : Lists) (kept : List Counters) (place : ℕ) (ts : List Weighted) : Type 0 where
  pub counts : IsCounted vars places lists kept []
  pub terms : terms_at counts.inner place ≡ ts

-- one more term was entered, whatever was entered before
abbrev pub Enters : ℕ → List (Option Constraint) → ℕ → Weighted → Lists → List Counters → Lists → List Counters → Type 0
Enters vars places place t lists kept lists' kept' = (ts : List Weighted) → IsEntered vars places lists kept place ts → IsEntered vars places lists' kept' place (ts ++ t ∷ [])

-- each constraint that stands has room enough at the start, or is listed
abbrev pub AreListed : List (Option Constraint) → List Counters → List ℕ → Type 0
AreListed places kept tight = (p : ℕ) (c : Constraint) → Stands places p c → (alert_at kept p ≤ weight c.terms) ⊎ Contains tight p

-- constraints with their index and rooms, while nothing is told
pub record IsStore (vars : ℕ) (places : List (Option Constraint)) (lists : Lists) (kept : List Counters) (tight : List ℕ) : Type 0 where
  pub counts : IsCounted vars places lists kept []
  pub listed : AreListed places kept tight
  pub even : length kept ≡ length places
