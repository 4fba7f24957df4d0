-- Constraints that stand by their ids, and the same in an engine.
use Rattle.std.specs.Prelude.{◌≡◌, ◌≤◌, ◌⊎◌, ℕ, List, [], Some, None, Contains, length, take}
use Rattle.pb_norm.specs.Constraints.{Constraint, HasVarsWithin}
use Rattle.pb_norm.specs.PropagationLaws.{AreAmong}
use Rattle.pb_unit.specs.Trails.{Held}
use Rattle.pb_unit.specs.States.{EngineState, Stands, standing, at_place}
use Rattle.pb_database.specs.declared.slots.Slot.{Slot}
use Rattle.pb_database.specs.inner.Slots.{slot_at, database_of}
use Rattle.pb_database.specs.Sound.{IsDatabase}
use Rattle.pb_database.specs.inner.Indexed.{IsIndexed}

-- each constraint of a slot is at its place, and no place has another or the same twice
pub record IsMirrored (vars : ℕ) (ss : List Slot) (s : EngineState) : Type 0 where
  pub vars_are : s.vars ≡ vars
  pub here : (k : ℕ) (c : Constraint) → (slot_at ss k).constraint ≡ Some c → Stands s.places (slot_at ss k).place c
  pub only : (p : ℕ) (c : Constraint) → Stands s.places p c → (k : ℕ) × ((slot_at ss k).constraint ≡ Some c) × ((slot_at ss k).place ≡ p)
  pub own : (j k : ℕ) (c d : Constraint) → (slot_at ss j).constraint ≡ Some c → (slot_at ss k).constraint ≡ Some d → (slot_at ss j).place ≡ (slot_at ss k).place → j ≡ k

-- the same constraints stand at the same places
pub record KeepsEngine (before after : EngineState) : Type 0 where
  pub vars_are : after.vars ≡ before.vars
  pub same : (p : ℕ) → at_place after.places p ≡ at_place before.places p

-- nothing is assumed, and constraints stand at listed places alone
pub record IsCovered (vars : ℕ) (listed : List ℕ) (s : EngineState) : Type 0 where
  pub vars_are : s.vars ≡ vars
  pub given : s.given ≡ []
  pub covered : (p : ℕ) → (at_place s.places p ≡ None) ⊎ Contains listed p

-- no constraint stands
abbrev pub IsIdle : ℕ → EngineState → Type 0
IsIdle vars s = IsCovered vars [] s

-- just these constraints stand
pub record HasJust (cs : List Constraint) (s : EngineState) : Type 0 where
  pub sound : AreAmong (standing s.places) cs
  pub complete : AreAmong cs (standing s.places)

-- the variables of the constraints are within those that there are
abbrev pub AreWithin : ℕ → List Slot → Type 0
AreWithin vars ss = (k : ℕ) (c : Constraint) → (slot_at ss k).constraint ≡ Some c → HasVarsWithin vars c.terms

-- slots that are the same database, whatever the places of their constraints
abbrev pub AreSame : List Slot → List Slot → Type 0
AreSame before after = (original vars : ℕ) → database_of original vars after ≡ database_of original vars before

-- what stands by ids is sound and listed by its fresh variables; of the first slots, `entered` many, it stands in one engine; that engine, the one for listed constraints and rounds are over as many variables
pub record IsKept (original vars most : ℕ) (ss : List Slot) (entered : ℕ) (engine : EngineState) (idle : ℕ) (rounds : Held) (named : List (List ℕ)) : Type 0 where
  pub sound : IsDatabase (database_of original vars ss)
  pub few : entered ≤ length ss
  pub mirrored : IsMirrored most (take entered ss) engine
  pub is_idle : idle ≡ most
  pub beside : rounds.vars ≡ most
  pub indexed : IsIndexed original ss named
