-- What the desk of a system shows, and what it has asked (our own).
use Rattle.std.specs.Prelude.{◌≡◌, ℕ, ◌+◌, Bool, true, false, ◌==◌, if◌then◌else◌, List, [], ◌∷◌, set, slice_index_or}
use Rattle.std.specs.List.{list_any}
use Rattle.std.specs.Option.{option_map, option_map_or}
use Rattle.std.specs.declared.option.Option.{Option}
use Rattle.std.specs.declared.option.Option.TheVariants.{Some, None}
use Rattle.pb_desk.specs.Desk.{DeskState}
use Rattle.pb_files.specs.declared.file_id.FileId.{FileId}
use Rattle.pb_files.specs.Calls.{Call, with_call}
use Rattle.pb_files.specs.Calls.Call.{open_file, create, truncate}
use Rattle.pb_files.specs.Replay.{Shelf, answers_as, told_of}

-- which slots have the mark
abbrev pub marked : List Bool → ℕ → Bool
marked marks slot = slice_index_or marks slot false

-- What the desk shows: which slots are open; where calls are kept, what these show over the files that are supposed; its counts; which
-- slots are at their end, and which files at their last piece; and whether each answer was what those files give.
abbrev pub replayed : Shelf → Option (List Call) → List Bool → List Bool → ℕ → ℕ → List Bool → List Bool → DeskState
replayed files calls reading writing read_faults write_faults over finished = record {
  view = record { reading = marked reading; writing = marked writing; told = option_map (told_of files) calls; room = None; steady = false };
  read_faults = read_faults;
  write_faults = write_faults;
  ended = marked over;
  finished = marked finished;
  keeps = option_map_or (answers_as files) calls true;
}

-- Over which files it is supposed to be; what it has asked, where calls are kept; which files it has opened and made, the last of each of
-- its five slots to read, and then of each of its two to write; and which file standard output is.
pub record Asked : Type 0 where
  pub files : Shelf
  pub calls : Option (List Call)
  pub known : List (Option FileId)
  pub output : Option FileId

-- one call more, and all else as it was
abbrev pub after : Call → Asked → Asked
after call asked = record asked { calls = with_call call asked.calls }

-- it is this file
unfoldable pub is_id : FileId → Option FileId → Bool
is_id id None = false
is_id id (Some known) = if known.device == id.device then known.number == id.number else false

-- it is told which file this is, and it is one of those
abbrev pub is_known : List (Option FileId) → Option FileId → Bool
is_known known None = false
is_known known (Some id) = list_any (is_id id) known

-- The system opened the name in the slot.
pub record Opens (slot : ℕ) (name : List ℕ) (old new : Asked) : Type 0 where
  pub id : Option FileId
  pub is : new ≡ record (after (open_file slot name (Some id)) old) { known = set old.known slot id }

-- The system gave the file of the name, which is neither standard output nor one of those that the desk knows, and emptied it.
pub record Makes (slot : ℕ) (name : List ℕ) (old new : Asked) : Type 0 where
  pub id : Option FileId
  pub unsaid : is_known (old.output ∷ []) id ≡ false
  pub unknown : is_known old.known id ≡ false
  pub is : new ≡ record (after (truncate slot (Some tt)) (after (create slot name (Some id)) old)) { known = set old.known (5 + slot) id }

-- Why no file is made: the system gives none; it gives what standard output is, or one that the desk knows, which is left
-- as it is; or it does not empty it.
pub data Refuses (slot : ℕ) (name : List ℕ) (old new : Asked) : Type 0 where
  none : new ≡ after (create slot name None) old → Refuses slot name old new
  is_output : (id : Option FileId) → is_known (old.output ∷ []) id ≡ true → new ≡ after (create slot name (Some id)) old → Refuses slot name old new
  is_ours : (id : Option FileId) → is_known old.known id ≡ true → new ≡ after (create slot name (Some id)) old → Refuses slot name old new
  stays : (id : Option FileId) → is_known (old.output ∷ []) id ≡ false → is_known old.known id ≡ false → new ≡ after (truncate slot None) (after (create slot name (Some id)) old) → Refuses slot name old new
