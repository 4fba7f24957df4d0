-- What is taken where a line is read.
use Rattle.std.specs.Prelude.{◌≡◌, ◌≤◌, ◌++◌, ℕ, Bool, true, false, if◌then◌else◌, List, [], length, take, drop, Option, None}
use Rattle.pb_base.specs.declared.limit.LimitKind.{LimitKind}
use Rattle.pb_desk.specs.declared.limits.Remaining.{Remaining}
use Rattle.pb_desk.specs.View.{put, taken}
use Rattle.pb_desk.specs.Desk.{DeskState, Advances, FailsToRead, IfKept}
use Rattle.pb_desk.specs.Limits.{limit_of}
use Rattle.pb_desk.specs.Lines.{IsUnbroken}

-- the first limit that a line passes, from its start on
abbrev pub limit_in : Remaining → List ℕ → Option LimitKind
limit_in left bytes = limit_of left.text left.is_last left.line bytes

-- What a reader holds of its slot: the bytes that were taken and stand in no line yet, and whether the slot's end was met.
pub record Held : Type 0 where
  pub bytes : List ℕ
  pub over : Bool

-- nothing was read yet
abbrev pub nothing_held : Held
nothing_held = record { bytes = []; over = false }

-- what the slot has yet for its reader: nothing, once its end was met
abbrev pub beyond : Bool → List ℕ → List ℕ
beyond over left = if over then [] else left

-- what stands before the end of the text, ahead or in the slot
abbrev pub before_end : Held → List ℕ → List ℕ
before_end held left = held.bytes ++ beyond held.over left

-- the desk knows of the slot what its reader does: whether its end was met
abbrev pub Knows : ℕ → Held → DeskState → Type 0
Knows slot held desk = desk.ended slot ≡ held.over

-- where a slot has these bytes left, others could be: any, where its end was not met
abbrev pub MayStand : Held → List ℕ → List ℕ → Type 0
MayStand held left other = held.over ≡ true → other ≡ left

-- So many bytes of the slot were taken, and of the ends its own alone may have been met. What stood before the end of the text, and what stands there now; the same is so
-- of whatever else could stand behind the bytes that were taken, where the end was not met.
pub record TakesAhead (slot : ℕ) (ahead ahead' : Held) (before after : DeskState) (P : List ℕ → List ℕ → Type 0) : Type 0 where
  pub count : ℕ
  pub takes : Advances slot count before after
  pub over : ahead.over ≡ true → ahead'.over ≡ true
  pub ended : after.ended ≡ put before.ended slot ahead'.over
  pub told : IfKept before after (λ t. (rest : List ℕ) → MayStand ahead' (drop count (t.left slot)) rest → P (before_end ahead (take count (t.left slot) ++ rest)) (before_end ahead' rest))

-- A read failed, after so many bytes of the slot, whose end was not met. Of the bytes that stood ahead or were
-- taken before it this is so.
pub record FailsAhead (slot : ℕ) (ahead : Held) (before after : DeskState) (P : List ℕ → Type 0) : Type 0 where
  pub count : ℕ
  pub fails : FailsToRead (taken slot count) before after
  pub not_over : ahead.over ≡ false
  pub told : IfKept before after (λ t. (count ≤ length (t.left slot)) × P (ahead.bytes ++ take count (t.left slot)))

-- the bytes are a part of a line: they hold no LF, and pass no limit
abbrev pub IsPart : Remaining → List ℕ → Type 0
IsPart left bytes = IsUnbroken bytes × (limit_in left bytes ≡ None)
