-- How a call leaves a desk (our own).
use Rattle.std.specs.Prelude.{ℕ, Bool, ◌+◌, ◌≤◌, ◌<◌, ◌≡◌, ◌==◌, ◌&&◌, ◌⊎◌, nat_le, false, List, [], ◌∷◌, take, length, is_some, IfSome, IsSomeAnd, IsTrue, All}
use Rattle.std.specs.declared.option.Option.{Option}
use Rattle.std.specs.declared.option.Option.TheVariants.{Some}
use Rattle.pb_base.specs.FaultCounts.{Rose}
use Rattle.pb_desk.specs.View.{Made, Told, View, bytes_in, taken}

-- A desk, as contracts see it: what it shows, how many reads and writes have failed, of which slots the end was met, of which files the
-- last piece was written, and whether each answer up to now was as the desk tells.
pub record DeskState : Type 0 where
  pub view : View
  pub read_faults : ℕ
  pub write_faults : ℕ
  pub ended : ℕ → Bool
  pub finished : ℕ → Bool
  pub keeps : Bool

-- Nothing failed: the view changed so, and the counts of faults stay. Which ends were met may have changed. A desk that has ceased to keep
-- to what it tells never does so again.
pub record Reads (change : View → View) (old new : DeskState) : Type 0 where
  pub view : new.view ≡ change old.view
  pub tells : is_some new.view.told ≡ is_some old.view.told
  pub reads : new.read_faults ≡ old.read_faults
  pub writes : new.write_faults ≡ old.write_faults
  pub kept : IsTrue new.keeps → IsTrue old.keeps

-- The same, and the slots whose end was met are those. It keeps to what it tells iff it did.
pub record Reaches (change : View → View) (old new : DeskState) : Type 0 where
  pub view : new.view ≡ change old.view
  pub tells : is_some new.view.told ≡ is_some old.view.told
  pub reads : new.read_faults ≡ old.read_faults
  pub writes : new.write_faults ≡ old.write_faults
  pub ended : new.ended ≡ old.ended
  pub keeps : new.keeps ≡ old.keeps

-- A read failed after the view changed so. The count of reads rose by one, and that of writes stays.
pub record FailsToRead (change : View → View) (old new : DeskState) : Type 0 where
  pub view : new.view ≡ change old.view
  pub tells : is_some new.view.told ≡ is_some old.view.told
  pub reads : Rose old.read_faults new.read_faults
  pub writes : new.write_faults ≡ old.write_faults
  pub kept : IsTrue new.keeps → IsTrue old.keeps

-- A write failed after the view changed so. The count of writes rose by one, and that of reads and the ends stay.
pub record FailsToWrite (change : View → View) (old new : DeskState) : Type 0 where
  pub view : new.view ≡ change old.view
  pub tells : is_some new.view.told ≡ is_some old.view.told
  pub reads : new.read_faults ≡ old.read_faults
  pub writes : Rose old.write_faults new.write_faults
  pub ended : new.ended ≡ old.ended
  pub keeps : new.keeps ≡ old.keeps

abbrev pub same : View → View
same view = view

abbrev pub IsSteady : DeskState → Type 0
IsSteady desk = IsTrue desk.view.steady

-- what is told, if the desk tells, is so
abbrev pub IfTold : DeskState → (Told → Type 0) → Type 0
IfTold desk P = IfSome desk.view.told P

-- so it is where each answer up to the new desk was as the desk tells
abbrev pub IfKept : DeskState → DeskState → (Told → Type 0) → Type 0
IfKept old new P = IsTrue new.keeps → IfTold old P

-- the desk tells, and what it tells is so
abbrev pub IsTold : DeskState → (Told → Type 0) → Type 0
IsTold desk P = IsSomeAnd desk.view.told P

-- so many bytes of a slot were taken, of those that were left
pub record Advances (slot count : ℕ) (old new : DeskState) : Type 0 where
  pub reached : Reads (taken slot count) old new
  pub were_left : IfKept old new (λ t. count ≤ length (t.left slot))

-- count bytes that were left are now in the room: none only at the end or for want of room
pub record Gives (left : List ℕ) (count : ℕ) (room : List ℕ) : Type 0 where
  pub enough : count ≤ length left
  pub bytes : take count room ≡ take count left
  pub end : count ≡ 0 → 0 < length room → left ≡ []

-- at most this piece was taken, and a byte at least if it has one
pub record TakesSome (piece : List ℕ) (count : ℕ) : Type 0 where
  pub at_most : count ≤ length piece
  pub some : 0 < length piece → 0 < count

-- So many bytes of a piece were taken, and that ends its file: the piece is smaller than a whole one, and was taken whole. A whole one is a
-- full buffer of 64 KiB, of which 64 bytes may be free.
abbrev pub is_last : List ℕ → ℕ → Bool
is_last piece count = nat_le (length piece) 65472 && count == length piece

-- a file of the name, or of the slot, was made
abbrev pub HasName : List ℕ → List Made → Type 0
HasName name [] = ⊥
HasName name (file ∷ files) = (file.name ≡ name) ⊎ HasName name files

abbrev pub HasSlot : ℕ → List Made → Type 0
HasSlot slot [] = ⊥
HasSlot slot (file ∷ files) = (file.slot ≡ slot) ⊎ HasSlot slot files

-- why a steady desk may refuse to create
abbrev pub IsTaken : ℕ → List ℕ → List Made → Type 0
IsTaken slot name made = HasName name made ⊎ (255 < length name) ⊎ HasSlot slot made

abbrev pub written : ℕ → Told → List ℕ
written slot t = bytes_in slot t.made

abbrev pub words : Told → List ℕ
words t = t.said

-- the room is told, and has no place for so many bytes behind those
abbrev pub LacksRoom : (Told → List ℕ) → ℕ → DeskState → Type 0
LacksRoom bytes count desk = IsSomeAnd desk.view.room (λ most. IsTold desk (λ t. most < length (bytes t) + count))

-- no file has more bytes than the room, nor have the words
pub record FitsRoom (most : ℕ) (t : Told) : Type 0 where
  pub files : All (λ (file : Made). length file.bytes ≤ most) t.made
  pub words : length t.said ≤ most

-- A write failed in a text, after the first so many of its bytes.
pub record StopsIn (text : List ℕ) (change : List ℕ → View → View) (old new : DeskState) : Type 0 where
  pub count : ℕ
  pub in_text : count < length text
  pub fails : FailsToWrite (change (take count text)) old new

-- no slot is open
pub record IsClosed (desk : DeskState) : Type 0 where
  pub reading : (slot : ℕ) → desk.view.reading slot ≡ false
  pub writing : (slot : ℕ) → desk.view.writing slot ≡ false

-- the desk tells this, nothing is made or said, and no fault is counted
pub record IsFresh (t : Told) (desk : DeskState) : Type 0 where
  pub told : desk.view.told ≡ Some t
  pub made : t.made ≡ []
  pub said : t.said ≡ []
  pub no_reads : desk.read_faults ≡ 0
  pub no_writes : desk.write_faults ≡ 0

-- so, and what it tells to lie on its shelf is this
abbrev pub IsFreshWith : (List ℕ → Option (List ℕ)) → DeskState → Type 0
IsFreshWith shelf desk = IsTold desk (λ t. (t.shelf ≡ shelf) × IsFresh t desk)
