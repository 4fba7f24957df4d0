-- Constraints by their ids, as the code keeps them: the one with id 1 first, and a hole where one was taken away.
use Rattle.std.specs.Prelude.{◌≡◌, ◌+◌, ℕ, zero, suc, Bool, false, List, [], ◌∷◌, Option, Some, None, length, slice_index_or, slice_set, is_some, true, ◌&&◌, filter_map}
use Rattle.std.specs.Option.{option_map}
use Rattle.pb_norm.specs.Constraints.{Constraint}
use Rattle.pb_steps.specs.Database.{Entry, Database}
use Rattle.pb_database.specs.declared.slots.Slot.{Slot}

abbrev pub with_entry : ℕ → Option Constraint → Bool → List Entry → List Entry
with_entry n None out es = es
with_entry n (Some c) out es = record { id = n; constraint = c; out = out } ∷ es

-- what stands, the first slot being that of the number
abbrev pub entries_from : ℕ → List Slot → List Entry
entries_from n [] = []
entries_from n (s ∷ ss) = with_entry n s.constraint s.out (entries_from (n + 1) ss)

abbrev pub hole : Slot
hole = record { constraint = None; place = 0; out = false }

-- a constraint at a place, that was not put out
abbrev pub whole : Constraint → ℕ → Slot
whole c place = record { constraint = Some c; place = place; out = false }

-- constraints at places one after the other
abbrev pub placed_from : ℕ → List Constraint → List Slot
placed_from place [] = []
placed_from place (c ∷ cs) = whole c place ∷ placed_from (place + 1) cs

-- the place of a slot's constraint, if one stands
abbrev pub place_of : Slot → Option ℕ
place_of s = option_map (λ c. s.place) s.constraint

-- the slot at an index
abbrev pub slot_at : List Slot → ℕ → Slot
slot_at ss k = slice_index_or ss k hole

-- the slot of an id, and a hole where there is none
abbrev pub slot_of : List Slot → ℕ → Slot
slot_of ss zero = hole
slot_of ss (suc k) = slice_index_or ss k hole

abbrev pub slot_is_out : Slot → Bool
slot_is_out s = is_some s.constraint && s.out

-- without the constraint of an id
abbrev pub slots_without : List Slot → ℕ → List Slot
slots_without ss zero = ss
slots_without ss (suc k) = slice_set ss k hole

-- the slot of an id, whose constraint is at the place, becomes a hole
pub record LeavesSlot (before : List Slot) (id place : ℕ) (after : List Slot) : Type 0 where
  pub hole_left : after ≡ slots_without before id
  pub at : Some place ≡ place_of (slot_of before id)

-- the constraint of an id is marked
abbrev pub marked_slots : List Slot → ℕ → List Slot
marked_slots ss zero = ss
marked_slots ss (suc k) = slice_set ss k (record (slice_index_or ss k hole) { out = true })

-- the constraint of a slot is at a place
abbrev pub slots_placed : List Slot → ℕ → ℕ → List Slot
slots_placed ss k place = slice_set ss k (record (slice_index_or ss k hole) { place = place })

-- the database that the slots are
abbrev pub database_of : ℕ → ℕ → List Slot → Database
database_of original vars ss = record { original = original; vars = vars; live = entries_from 1 ss; next = length ss + 1 }

-- the constraints of ids that have one
abbrev pub listed_slots : List Slot → List ℕ → List Constraint
listed_slots ss ids = filter_map (λ id. (slot_of ss id).constraint) ids
