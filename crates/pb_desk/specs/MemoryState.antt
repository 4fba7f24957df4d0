-- What a desk in memory shows.
use Rattle.std.specs.Prelude.{ℕ, Bool, true, false, ◌==◌, if◌then◌else◌, List, [], ◌∷◌, ◌++◌, Some, None, is_some, slice_index_or}
use Rattle.pb_desk.specs.declared.memory_file.MemoryFile.{MemoryFile}
use Rattle.pb_desk.specs.declared.memory.MemoryDesk.{MemoryDesk}
use Rattle.pb_desk.specs.View.{Made, Told}
use Rattle.pb_desk.specs.Desk.{DeskState}
use Rattle.pb_desk.specs.Memory.{Plan, shelf_of, left_of}

-- the file of a slot, if it was made
abbrev pub file_in : ℕ → MemoryFile → List Made
file_in slot memory_file = if memory_file.is_made then record { slot = slot; name = memory_file.name.bytes.items; bytes = memory_file.bytes.bytes.items } ∷ [] else []

-- the files, the newest first
abbrev pub files_of : Bool → MemoryFile → MemoryFile → List Made
files_of one_is_newest zero one = if one_is_newest then file_in 1 one ++ file_in 0 zero else file_in 0 zero ++ file_in 1 one

-- whether the list has nothing
abbrev pub is_nil : List ℕ → Bool
is_nil [] = true
is_nil (x ∷ xs) = false

-- the value at 0, the value at 1, and the one elsewhere
abbrev pub at_two : {X : Type 0} → X → X → X → ℕ → X
at_two zero one elsewhere slot = if slot == 0 then zero else if slot == 1 then one else elsewhere

-- what it tells
abbrev pub desk_told : MemoryDesk → Told
desk_told desk = record {
  shelf = shelf_of desk.shelf;
  left = λ slot. left_of desk.shelf (slice_index_or desk.reading slot None);
  made = files_of desk.one_is_newest desk.zero desk.one;
  said = desk.said.bytes.items;
}

-- the whole desk, as contracts see it
unfoldable pub state_of : MemoryDesk → DeskState
state_of desk = record {
  view = record {
    reading = λ slot. is_some (slice_index_or desk.reading slot None);
    writing = at_two desk.zero.is_open desk.one.is_open false;
    told = Some (desk_told desk);
    room = Some desk.room;
    steady = is_nil desk.fault_plan.fails;
  };
  read_faults = desk.read_faults;
  write_faults = desk.write_faults;
  ended = λ slot. slice_index_or desk.over slot false;
  finished = λ slot. slice_index_or desk.finished slot false;
  keeps = true;
}

-- what it goes by
unfoldable pub plan_of : MemoryDesk → Plan
plan_of desk = record { fails = desk.fault_plan.fails; calls = desk.fault_plan.calls; piece = desk.piece }
