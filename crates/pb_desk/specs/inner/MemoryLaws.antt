-- The laws of a desk in memory, proved: it tells everything, an open file is among those made, and all fits its room.
use Rattle.std.specs.Prelude.{ℕ, IsSome, IsTrue, IfSome, refl}
use Rattle.pb_desk.specs.declared.memory.MemoryDesk.{MemoryDesk}
use Rattle.pb_desk.specs.Desk.{HasSlot, IfTold, FitsRoom}
use Rattle.pb_desk.specs.MemoryState.{state_of}
use Rattle.pb_desk.specs.laws.MemoryFiles.{in_files, in_room, all_fit}

pub memory_tells : (desk : MemoryDesk) → IsSome (state_of desk).view.told
unfolding state_of
memory_tells desk = refl

pub memory_keeps : (desk : MemoryDesk) → IsTrue (state_of desk).keeps
unfolding state_of
memory_keeps desk = refl

pub memory_has_room : (desk : MemoryDesk) → IsSome (state_of desk).view.room
unfolding state_of
memory_has_room desk = refl

pub memory_has_file : (desk : MemoryDesk) (slot : ℕ) → IsTrue ((state_of desk).view.writing slot) → IfTold (state_of desk) (λ t. HasSlot slot t.made)
unfolding state_of
memory_has_file desk slot is_open = in_files desk.one_is_newest desk.zero desk.one slot is_open

pub memory_fits : (desk : MemoryDesk) → IfSome (state_of desk).view.room (λ most. IfTold (state_of desk) (FitsRoom most))
unfolding state_of
memory_fits desk = record { files = all_fit desk.room desk.one_is_newest desk.zero desk.one desk.rooms.0 desk.rooms.1; words = in_room desk.room desk.said desk.rooms.2 }
