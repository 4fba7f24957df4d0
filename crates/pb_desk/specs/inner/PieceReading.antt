-- How a line is gathered piece by piece, as the functions that do it say to each other.
use Rattle.std.specs.Prelude.{◌≡◌, ◌≤◌, ◌<◌, ℕ, Bool, true, false, ◌+◌, ◌-◌, List, [], ◌∷◌, ◌++◌, length, drop, Option, Some, None}
use Rattle.std.specs.Bool.{OnTrue, OnFalse}
use Rattle.pb_desk.specs.Desk.{DeskState}
use Rattle.pb_base.specs.declared.limit.LimitKind.{LimitKind}
use Rattle.pb_desk.specs.declared.limits.Remaining.{Remaining}
use Rattle.pb_desk.specs.declared.piece.Stop.{Stop}
use Rattle.pb_desk.specs.declared.piece.Stop.TheVariants.{Failed, Limit, NoMemory}
use Rattle.pb_desk.specs.declared.line.Found.{Found}
use Rattle.pb_desk.specs.declared.line.Found.TheVariants.{Nothing, Last, Ended}
use Rattle.pb_desk.specs.Lines.{BeginsWith, IsUnbroken}
use Rattle.pb_desk.specs.Limits.{limit_of}
use Rattle.pb_desk.specs.LineReading.{limit_in, Held, TakesAhead, FailsAhead, IsPart}

-- the same where the line has so many bytes already
abbrev pub limit_after : Remaining → ℕ → List ℕ → Option LimitKind
limit_after left count bytes = limit_of (left.text - count) left.is_last (left.line - count) bytes

-- a line's first bytes, which have no LF and pass no limit
pub record InLine (left : Remaining) (line : List ℕ) : Type 0 where
  pub unbroken : IsUnbroken line
  pub in_text : length line ≤ left.text
  pub in_line : length line ≤ left.line
  pub is_line : 0 < length line → left.is_last ≡ false
  pub limit : (more : List ℕ) → limit_in left (line ++ more) ≡ limit_after left (length line) more

-- the whole line, which ends with LF
pub record IsEnded (left : Remaining) (line : List ℕ) : Type 0 where
  pub unbroken : IsUnbroken line
  pub in_text : length line < left.text
  pub is_line : left.is_last ≡ false
  pub limit : (more : List ℕ) → limit_in left (line ++ 10 ∷ more) ≡ None

-- the bytes up to the first LF, and whether there is one
pub record IsPiece (bytes piece : List ℕ) (is_ended : Bool) : Type 0 where
  pub unbroken : IsUnbroken piece
  pub ended : OnTrue is_ended (bytes ≡ piece ++ 10 ∷ drop (length piece + 1) bytes)
  pub whole : OnFalse is_ended (piece ≡ bytes)

abbrev pub TakesPiece : Remaining → Bool → List ℕ → List ℕ → List ℕ → List ℕ → Type 0
TakesPiece left true ahead ahead' line line' = IsEnded left line' × (line ++ ahead ≡ line' ++ 10 ∷ ahead')
TakesPiece left false ahead ahead' line line' = InLine left line' × (line' ≡ line ++ ahead) × (ahead' ≡ [])

abbrev pub StopsPiece : Remaining → List ℕ → List ℕ → Stop → Type 0
StopsPiece left ahead line Failed = ⊥
StopsPiece left ahead line (Limit which) = (more : List ℕ) → limit_in left (line ++ ahead ++ more) ≡ Some which
StopsPiece left ahead line NoMemory = Unit {0}

-- ---- one line

-- what was found at the start of a line, with the text from there on, and what is left of it
abbrev pub Finds : Remaining → Found → List ℕ → List ℕ → List ℕ → Type 0
Finds left Nothing line text rest = (text ≡ []) × (rest ≡ [])
Finds left Last line text rest = (text ≡ line) × (rest ≡ []) × BeginsWith line text rest × (limit_in left text ≡ None)
Finds left Ended line text rest = (text ≡ line ++ 10 ∷ rest) × BeginsWith line text rest × (limit_in left text ≡ None)

-- the line is within what is left
abbrev pub Fits : Remaining → Found → List ℕ → Type 0
Fits left Nothing line = line ≡ []
Fits left Last line = (length line ≤ left.text) × (left.is_last ≡ false)
Fits left Ended line = (length line < left.text) × (left.is_last ≡ false)

abbrev pub StopsLine : Remaining → ℕ → Held → Held → DeskState → DeskState → Stop → Type 0
StopsLine left slot ahead ahead' before after Failed = FailsAhead slot ahead before after (IsPart left)
StopsLine left slot ahead ahead' before after (Limit which) = TakesAhead slot ahead ahead' before after (λ text rest. limit_in left text ≡ Some which)
StopsLine left slot ahead ahead' before after NoMemory = TakesAhead slot ahead ahead' before after (λ text rest. Unit {0})

-- more was taken from the slot where nothing was ahead: none at the end of the text
pub record Refills (slot : ℕ) (some : Bool) (ahead ahead' : Held) (before after : DeskState) : Type 0 where
  pub reads : TakesAhead slot ahead ahead' before after (λ text rest. (text ≡ rest) × (some ≡ false → rest ≡ []))
  pub some_ahead : some ≡ true → 0 < length ahead'.bytes

-- what stands at the end of the text
abbrev pub found_at_end : List ℕ → Found
found_at_end [] = Nothing
found_at_end (b ∷ bytes) = Last
