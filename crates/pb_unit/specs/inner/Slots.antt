-- Constraints as they are kept, a slot a place.
use Rattle.std.specs.Prelude.{ℕ, ◌≤◌, ◌+◌, ◌++◌, if◌then◌else◌, nat_lt, length, slice_set, List, [], ◌∷◌, Option, Some, None, map, take, drop, All}
use Rattle.pb_base.specs.declared.literal.Lit.{Lit}
use Rattle.pb_norm.specs.Constraints.{Weighted, Constraint}
use Rattle.pb_unit.specs.Reaching.{IsUpTo, OfConstraint}
use Rattle.pb_unit.specs.declared.places.Slot.{Slot}
use Rattle.pb_unit.specs.declared.places.Slot.TheVariants.{Empty, Clause, General}

-- a literal with the coefficient 1
abbrev pub unit : Lit → Weighted
unit l = record { coef = 1; lit = l }

-- the literals of a slot in one list of literals
abbrev pub part : List Lit → ℕ → ℕ → List Lit
part lits start len = take len (drop start lits)

-- at least one of the literals
abbrev pub clause_of : List Lit → Constraint
clause_of ls = record { terms = map unit ls; degree = 1 }

abbrev pub slot_at : List Lit → Slot → Option Constraint
slot_at lits Empty = None
slot_at lits (Clause start len) = Some (clause_of (part lits start len))
slot_at lits (General alone) = Some alone.value

-- how many literals the clause of a slot has
abbrev pub slot_lits : Slot → ℕ
slot_lits Empty = 0
slot_lits (Clause start len) = len
slot_lits (General alone) = 0

-- the slot at a place, which is one of the list or the next
abbrev pub with_slot : List Slot → ℕ → Slot → List Slot
with_slot slots place slot = if nat_lt place (length slots) then slice_set slots place slot else slots ++ slot ∷ []

-- the slot's literals are in a list of this length
abbrev pub IsSlot : ℕ → Slot → Type 0
IsSlot n Empty = Unit {0}
IsSlot n (Clause start len) = start + len ≤ n
IsSlot n (General alone) = Unit {0}

abbrev pub AreSlots : ℕ → List Slot → Type 0
AreSlots n slots = All (IsSlot n) slots

-- a constraint in memory of its own has variables from 1 to a number
abbrev pub IsAloneUpTo : ℕ → Slot → Type 0
IsAloneUpTo most Empty = Unit {0}
IsAloneUpTo most (Clause start len) = Unit {0}
IsAloneUpTo most (General alone) = OfConstraint (IsUpTo most) alone.value
