-- How often the slots in a record of calls are read and written, and by which pieces (our own).
use Rattle.std.specs.Prelude.{ℕ, suc, Bool, true, false, not, ◌≡◌, ◌≤◌, ◌==◌, ◌&&◌, nat_le, min, ◌+◌, ◌*◌, if◌then◌else◌, List, [], ◌∷◌, length}
use Rattle.std.specs.declared.option.Option.TheVariants.{Some, None}
use Rattle.pb_desk.specs.View.{bytes_in}
use Rattle.pb_desk.specs.Desk.{is_last}
use Rattle.pb_files.specs.Calls.{Call}
use Rattle.pb_files.specs.Calls.Call.{open_file, create, truncate, read, write}
use Rattle.pb_files.specs.Replay.{Shelf, has_slot, is_nil, left_of, made_of}

-- how often the slot was read since a file was opened in it
abbrev pub reads_of : ℕ → List Call → ℕ
reads_of slot [] = 0
reads_of slot (open_file place name (Some id) ∷ calls) = if slot == place then 0 else reads_of slot calls
reads_of slot (read place room answer ∷ calls) = if slot == place then suc (reads_of slot calls) else reads_of slot calls
reads_of slot (call ∷ calls) = reads_of slot calls

-- how many bytes that gave
abbrev pub bytes_read : ℕ → List Call → ℕ
bytes_read slot [] = 0
bytes_read slot (open_file place name (Some id) ∷ calls) = if slot == place then 0 else bytes_read slot calls
bytes_read slot (read place room (Some bytes) ∷ calls) = if slot == place then bytes_read slot calls + length bytes else bytes_read slot calls
bytes_read slot (call ∷ calls) = bytes_read slot calls

-- its last read that did not fail was at the end
abbrev pub is_over : ℕ → List Call → Bool
is_over slot [] = false
is_over slot (open_file place name (Some id) ∷ calls) = if slot == place then false else is_over slot calls
is_over slot (read place room (Some bytes) ∷ calls) = if slot == place then is_nil bytes else is_over slot calls
is_over slot (call ∷ calls) = is_over slot calls

-- how often the slot was written since a file was made in it
abbrev pub writes_of : ℕ → List Call → ℕ
writes_of slot [] = 0
writes_of slot (truncate place (Some emptied) ∷ create made name (Some id) ∷ calls) = if made == slot then 0 else writes_of slot calls
writes_of slot (write place piece answer ∷ calls) = if place == slot then suc (writes_of slot calls) else writes_of slot calls
writes_of slot (call ∷ calls) = writes_of slot calls

-- its last write that did not fail took a last piece
abbrev pub is_finished : ℕ → List Call → Bool
is_finished slot [] = false
is_finished slot (truncate place (Some emptied) ∷ create made name (Some id) ∷ calls) = if made == slot then false else is_finished slot calls
is_finished slot (write place piece (Some count) ∷ calls) = if place == slot then is_last piece count else is_finished slot calls
is_finished slot (call ∷ calls) = is_finished slot calls

-- A read has room for a whole piece, and comes before the end. A write is to a file that was made, and comes before its last piece.
abbrev pub is_by_piece : Call → List Call → Bool
is_by_piece (read slot room answer) calls = nat_le 65536 room && not (is_over slot calls)
is_by_piece (write slot piece answer) calls = has_slot slot (made_of calls) && not (is_finished slot calls)
is_by_piece call calls = true

-- so does each call
abbrev pub moves_pieces : List Call → Bool
moves_pieces [] = true
moves_pieces (call ∷ calls) = is_by_piece call calls && moves_pieces calls

-- Each read gave as many bytes as there was room for and were left.
abbrev pub gives_all : Shelf → List Call → Bool
gives_all files [] = true
gives_all files (read slot room (Some bytes) ∷ calls) = length bytes == min room (length (left_of files calls slot)) && gives_all files calls
gives_all files (read slot room None ∷ calls) = false
gives_all files (call ∷ calls) = gives_all files calls

-- Each write took the whole piece.
abbrev pub takes_all : List Call → Bool
takes_all [] = true
takes_all (write slot piece (Some count) ∷ calls) = count == length piece && takes_all calls
takes_all (write slot piece None ∷ calls) = false
takes_all (call ∷ calls) = takes_all calls

-- If each read gives all that it can, a slot is read at most twice, and once more for each 65,536 bytes that it gave. If each write takes all of its piece,
-- a slot is written at most once, and once more for each 65,473 bytes of its file.
pub record IsByPieces (files : Shelf) (calls : List Call) : Type 0 where
  pub reads : (slot : ℕ) → gives_all files calls ≡ true → 65536 * reads_of slot calls ≤ bytes_read slot calls + 2 * 65536
  pub writes : (slot : ℕ) → takes_all calls ≡ true → 65473 * writes_of slot calls ≤ length (bytes_in slot (made_of calls)) + 65473
