-- What the calls of a desk, the newest first, show of it, where its system held given files: what its slots have left, what was made and
-- said, and whether each answer is what those files give (our own).
use Rattle.std.specs.Prelude.{ℕ, Bool, true, ◌==◌, ◌&&◌, ◌||◌, nat_lt, false, List, [], ◌∷◌, ◌++◌, length, take, drop, is_some}
use Rattle.std.specs.Option.{unwrap_or}
use Rattle.std.specs.declared.option.Option.{Option}
use Rattle.std.specs.declared.option.Option.TheVariants.{Some}
use Rattle.std.specs.Str.{bytes_eq}
use Rattle.pb_desk.specs.View.{Made, Told, appended, put}
use Rattle.pb_files.specs.Calls.{Call}
use Rattle.pb_files.specs.Calls.Call.{open_file, create, truncate, read, write, say}

-- what each name holds, if there is a file of that name
abbrev pub Shelf : Type 0
Shelf = List ℕ → Option (List ℕ)

-- what each slot has left: all that its name holds, from when it was opened, but for the bytes that were read
abbrev pub left_of : Shelf → List Call → ℕ → List ℕ
left_of files [] = λ slot. []
left_of files (open_file slot name (Some id) ∷ calls) = put (left_of files calls) slot (unwrap_or (files name) [])
left_of files (read slot room (Some bytes) ∷ calls) = put (left_of files calls) slot (drop (length bytes) (left_of files calls slot))
left_of files (call ∷ calls) = left_of files calls

-- the files that were given and then emptied, each with the bytes that the system took since
abbrev pub made_of : List Call → List Made
made_of [] = []
made_of (truncate slot (Some emptied) ∷ create place name (Some id) ∷ calls) = record { slot = place; name = name; bytes = [] } ∷ made_of calls
made_of (write slot piece (Some count) ∷ calls) = appended slot (take count piece) (made_of calls)
made_of (call ∷ calls) = made_of calls

-- a file of the slot was made
abbrev pub has_slot : ℕ → List Made → Bool
has_slot slot [] = false
has_slot slot (file ∷ files) = file.slot == slot || has_slot slot files

-- the bytes that the system took to say
abbrev pub said_of : List Call → List ℕ
said_of [] = []
said_of (say piece (Some count) ∷ calls) = said_of calls ++ take count piece
said_of (call ∷ calls) = said_of calls

abbrev pub is_nil : List ℕ → Bool
is_nil [] = true
is_nil (x ∷ xs) = false

-- the bytes are the next of those that are left, and there are none, for some room, only at the end
abbrev pub is_next : ℕ → List ℕ → List ℕ → Bool
is_next room left bytes = bytes_eq bytes (take (length bytes) left) && (nat_lt 0 (length bytes) || (room == 0 || is_nil left))

-- Each answer is what the files give: what was opened is there, and each read gave the next bytes of what its name holds, and none only
-- at the end. A call may have failed.
abbrev pub answers_as : Shelf → List Call → Bool
answers_as files [] = true
answers_as files (open_file slot name (Some id) ∷ calls) = is_some (files name) && answers_as files calls
answers_as files (read slot room (Some bytes) ∷ calls) = is_next room (left_of files calls slot) bytes && answers_as files calls
answers_as files (call ∷ calls) = answers_as files calls

-- all that they show
abbrev pub told_of : Shelf → List Call → Told
told_of files calls = record { shelf = files; left = left_of files calls; made = made_of calls; said = said_of calls }
