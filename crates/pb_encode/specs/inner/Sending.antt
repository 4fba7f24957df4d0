-- How writing a text to a slot may end.
use Rattle.std.specs.Prelude.{ℕ, ◌≡◌, List, Result, take, length, IfErr, OnOk}
use Rattle.pb_desk.specs.View.{wrote}
use Rattle.pb_desk.specs.Desk.{DeskState, Reaches, FailsToWrite, IsSteady, LacksRoom, written}
use Rattle.pb_family.specs.declared.sink.SinkFault.{SinkFault}
use Rattle.pb_encode.specs.declared.fault.EncodeFault.{EncodeFault}
use Rattle.pb_encode.specs.declared.fault.EncodeFault.TheVariants as fault
use Rattle.pb_encode.specs.inner.Faults.{of_sink}

-- a write failed once a first part of the text was written
pub record StopsSending (slot : ℕ) (text : List ℕ) (old new : DeskState) : Type 0 where
  pub count : ℕ
  pub fails : FailsToWrite (wrote slot (take count text)) old new

-- a first part of the text is written
pub record SendsPart (slot : ℕ) (text : List ℕ) (old new : DeskState) : Type 0 where
  pub count : ℕ
  pub reached : Reaches (wrote slot (take count text)) old new

-- the slot has no room for the text
abbrev pub LacksFor : ℕ → List ℕ → DeskState → Type 0
LacksFor slot text desk = LacksRoom (written slot) (length text) desk

-- Memory was wanting once a first part of the text was written; or a write failed in this too, over a steady desk only where there is no room.
pub data WantsSending (slot : ℕ) (text : List ℕ) (old new : DeskState) : Type 0 where
  sent : SendsPart slot text old new → WantsSending slot text old new
  cut_off : StopsSending slot text old new → (IsSteady old → LacksFor slot text old) → WantsSending slot text old new

-- how the desk stands where the text was not sent whole
abbrev pub Stops : ℕ → List ℕ → DeskState → DeskState → EncodeFault → Type 0
Stops slot text old new fault.WriteFault = StopsSending slot text old new
Stops slot text old new fault.NoMemory = WantsSending slot text old new
Stops slot text old new (fault.Limit which) = ⊥

-- how sending it ends; a write fails over a steady desk only where there is no room
pub record Sends {T : Type 0} (slot : ℕ) (text : List ℕ) (r : Result T SinkFault) (old new : DeskState) : Type 0 where
  pub whole : OnOk r (Reaches (wrote slot text) old new)
  pub stopped : IfErr r (λ f. Stops slot text old new (of_sink f))
  pub lacks : IsSteady old → IfErr r (λ f. fault.WriteFault ≡ of_sink f → LacksFor slot text old)
