-- How handing a text to a sink may end where memory may be wanting. Our own.
use Rattle.std.specs.Prelude.{List, ℕ, Result, take, ◌⊎◌}
use Rattle.std.specs.declared.result.Result.TheVariants.{Ok, Err}
use Rattle.pb_family.specs.Handing.{Stops}
use Rattle.pb_family.specs.Sinks.{SinkState, FailsToTake, Takes}
use Rattle.pb_family.specs.declared.sink.SinkFault.{SinkFault}
use Rattle.pb_family.specs.declared.sink.SinkFault.TheVariants as fault
use Rattle.pb_dimacs.specs.Outboxes.{IsAllSent}

-- The text was taken, or a first part of it until the sink failed or memory was wanting.
abbrev pub HandsTextIfMemory : {T Rest : Type 0} → List ℕ → Result T SinkFault → SinkState Rest → SinkState Rest → Type 0
HandsTextIfMemory text (Ok x) old new = Takes text old new
HandsTextIfMemory text (Err f) old new = Stops text old new f

-- a first part of the text was taken, and all of it went on
pub record SendsFront {Rest : Type 0} (text : List ℕ) (old new : SinkState Rest) : Type 0 where
  pub count : ℕ
  pub taken : Takes (take count text) old new
  pub all_sent : IsAllSent new

-- The sink failed once a first part of the text was taken; or memory was wanting then, and that part went on or the sink failed in this.
abbrev pub BreaksOff : {Rest : Type 0} → List ℕ → SinkState Rest → SinkState Rest → SinkFault → Type 0
BreaksOff text old new fault.Failed = FailsToTake text old new
BreaksOff text old new fault.NoMemory = SendsFront text old new ⊎ FailsToTake text old new

-- the same where the text may be taken whole
abbrev pub SendsText : {T Rest : Type 0} → List ℕ → Result T SinkFault → SinkState Rest → SinkState Rest → Type 0
SendsText text (Ok x) old new = Takes text old new
SendsText text (Err f) old new = BreaksOff text old new f
