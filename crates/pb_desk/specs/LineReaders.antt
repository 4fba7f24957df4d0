-- Line after line (our own).
use Rattle.std.specs.Prelude.{◌≡◌, ◌≤◌, ◌<◌, ◌^◌, ℕ, Bool, true, false, ◌+◌, ◌-◌, List, [], length, nat_le, Option, Some, None}
use Rattle.pb_desk.specs.Desk.{DeskState}
use Rattle.pb_desk.specs.declared.limits.LineLimits.{LineLimits}
use Rattle.pb_desk.specs.declared.limits.Remaining.{Remaining}
use Rattle.pb_desk.specs.declared.piece.Stop.{Stop}
use Rattle.pb_desk.specs.declared.piece.Stop.TheVariants as stop
use Rattle.pb_desk.specs.declared.lines.LineFault.{LineFault}
use Rattle.pb_desk.specs.declared.lines.LineFault.TheVariants.{Failed, Limit, NoMemory}
use Rattle.pb_desk.specs.Lines.{BeginsWith}
use Rattle.pb_desk.specs.LineReading.{Held, TakesAhead, FailsAhead, IsPart, limit_in}

-- A reader, as contracts see it: its slot and limits; what it holds of the slot, and how many bytes stand before that; how many lines were read, and the last of them; and the fault that ended it.
pub record Reader : Type 0 where
  pub slot : ℕ
  pub limits : LineLimits
  pub ahead : Held
  pub at : ℕ
  pub number : ℕ
  pub line : List ℕ
  pub fault : Option LineFault

-- what holds of each reader
pub record IsReader (slot : ℕ) (limits : LineLimits) (at number : ℕ) : Type 0 where
  pub in_slots : slot < 5
  pub in_text : at ≤ limits.text
  pub in_lines : number ≤ limits.lines
  pub few_lines : limits.lines < 2 ^ 63

-- what is left for the next line
abbrev pub left_for : Reader → Remaining
left_for r = record { text = r.limits.text - r.at; line = r.limits.line; is_last = nat_le r.limits.lines r.number }

-- the reader after a line, with as many bytes before the rest of the text as it has fewer
pub record IsNextLine (old new : Reader) (text rest : List ℕ) : Type 0 where
  pub begins : BeginsWith new.line text rest
  pub limit : limit_in (left_for old) text ≡ None
  pub at : new.at + length rest ≡ old.at + length text

-- the slot, the limits and the fault stay
pub record Follows (old new : Reader) : Type 0 where
  pub slot : new.slot ≡ old.slot
  pub limits : new.limits ≡ old.limits
  pub fault : new.fault ≡ old.fault

-- a line was read, or the text has ended
abbrev pub GivesLine : Bool → Reader → Reader → DeskState → DeskState → Type 0
GivesLine true old new before after = Follows old new × (new.number ≡ old.number + 1) × (old.at + length new.line ≤ new.at) × TakesAhead old.slot old.ahead new.ahead before after (IsNextLine old new)
GivesLine false old new before after =
    Follows old new × (new.number ≡ old.number) × (new.at ≡ old.at) × (new.line ≡ []) × TakesAhead old.slot old.ahead new.ahead before after (λ text rest. (text ≡ []) × (rest ≡ []))

-- why a line was not read: a read failed before the line's end was there, or the line is the first that passes a limit
abbrev pub StopsReader : LineFault → Reader → Reader → DeskState → DeskState → Type 0
StopsReader Failed old new before after = FailsAhead old.slot old.ahead before after (IsPart (left_for old))
StopsReader (Limit which line) old new before after = (line ≡ old.number + 1) × TakesAhead old.slot old.ahead new.ahead before after (λ text rest. limit_in (left_for old) text ≡ Some which)
StopsReader NoMemory old new before after = TakesAhead old.slot old.ahead new.ahead before after (λ text rest. Unit {0})

-- a fault, which the reader keeps
pub record StopsAt (fault : LineFault) (old new : Reader) (before after : DeskState) : Type 0 where
  pub slot : new.slot ≡ old.slot
  pub limits : new.limits ≡ old.limits
  pub number : new.number ≡ old.number
  pub at : new.at ≡ old.at
  pub kept : new.fault ≡ Some fault
  pub cause : StopsReader fault old new before after

-- the fault at a line of this number
abbrev pub fault_at : ℕ → Stop → LineFault
fault_at line stop.Failed = Failed
fault_at line (stop.Limit which) = Limit which line
fault_at line stop.NoMemory = NoMemory
