-- How two texts of one desk are read side by side (our own).
use Rattle.std.specs.Prelude.{◌≡◌, ◌≢◌, ℕ, true, List, ◌++◌, take, drop}
use Rattle.pb_desk.specs.View.{View, taken}
use Rattle.pb_desk.specs.Desk.{DeskState, Reads, FailsToRead, IfKept}
use Rattle.pb_desk.specs.LineReading.{Held, Knows, MayStand, before_end}
use Rattle.pb_desk.specs.LineReaders.{Reader}

-- so many bytes of each of two slots were taken
abbrev pub both_taken : ℕ → ℕ → ℕ → ℕ → View → View
both_taken one two n m view = taken two m (taken one n view)

-- Bytes of the two slots were taken, and nothing else moved. Where the desk tells what they had left, those texts are so.
pub record TakesBoth (one two : ℕ) (P : List ℕ → List ℕ → Type 0) (old new : DeskState) : Type 0 where
  pub of_one : ℕ
  pub of_two : ℕ
  pub reached : Reads (both_taken one two of_one of_two) old new
  pub texts : IfKept old new (λ t. P (t.left one) (t.left two))

-- A read failed after bytes of the two slots were taken. Of the bytes that were taken this is so.
pub record FailsBoth (one two : ℕ) (P : List ℕ → List ℕ → Type 0) (old new : DeskState) : Type 0 where
  pub of_one : ℕ
  pub of_two : ℕ
  pub fails : FailsToRead (both_taken one two of_one of_two) old new
  pub told : IfKept old new (λ t. P (take of_one (t.left one)) (take of_two (t.left two)))

-- two texts that could stand before the ends of both, where these bytes of each were taken
pub record CouldStand (one two : Held) (of_one of_two c p : List ℕ) : Type 0 where
  pub behind_one : List ℕ
  pub behind_two : List ℕ
  pub at_one : c ≡ before_end one (of_one ++ behind_one)
  pub at_two : p ≡ before_end two (of_two ++ behind_two)

-- the desk knows of both slots what their readers do
abbrev pub KnowsBoth : Reader → Reader → DeskState → Type 0
KnowsBoth one two desk = Knows one.slot one.ahead desk × Knows two.slot two.ahead desk

-- Two readers of two slots went on. What stood before the ends of both texts, ahead or in the slots, and what stands there now; the same is so of whatever
-- else could stand behind the bytes that were taken.
pub record ReadsBoth (one two one' two' : Reader) (before after : DeskState) (P : List ℕ → List ℕ → List ℕ → List ℕ → Type 0) : Type 0 where
  pub apart : one.slot ≢ two.slot
  pub one_slot : one'.slot ≡ one.slot
  pub two_slot : two'.slot ≡ two.slot
  pub over_one : one.ahead.over ≡ true → one'.ahead.over ≡ true
  pub over_two : two.ahead.over ≡ true → two'.ahead.over ≡ true
  pub of_one : ℕ
  pub of_two : ℕ
  pub reached : Reads (both_taken one.slot two.slot of_one of_two) before after
  pub knows : KnowsBoth one two before → KnowsBoth one' two' after
  pub told : IfKept before after (λ t. (rest other : List ℕ) → MayStand one'.ahead (drop of_one (t.left one.slot)) rest → MayStand two'.ahead (drop of_two (t.left two.slot)) other
      → P (before_end one.ahead (take of_one (t.left one.slot) ++ rest)) (before_end two.ahead (take of_two (t.left two.slot) ++ other)) (before_end one'.ahead rest) (before_end two'.ahead other))

-- One of two readers of two slots failed to read. Of the texts that could stand before the ends of both, by what was taken of them, this is so.
pub record MissesBoth (one two : Reader) (before after : DeskState) (P : (List ℕ → List ℕ → Type 0) → Type 0) : Type 0 where
  pub of_one : ℕ
  pub of_two : ℕ
  pub fails : FailsToRead (both_taken one.slot two.slot of_one of_two) before after
  pub told : IfKept before after (λ t. P (CouldStand one.ahead two.ahead (take of_one (t.left one.slot)) (take of_two (t.left two.slot))))
