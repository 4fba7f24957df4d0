-- A slot of a desk as a sink where no name is wanted. Our own.
use Rattle.std.specs.Prelude.{ℕ, List}
use Rattle.pb_desk.specs.Desk.{DeskState}
use Rattle.pb_family.specs.Sinks.{SinkState}
use Rattle.pb_dimacs.specs.declared.outbox.WriteBuffer.{WriteBuffer}
use Rattle.pb_dimacs.specs.Outboxes.{SlotRest, held_in, slot_sink}

abbrev pub shown : ℕ → List ℕ → DeskState → SinkState (SlotRest (Unit {0}))
shown slot held desk = slot_sink tt slot held desk

-- with what an outbox holds
abbrev pub sink_of : ℕ → WriteBuffer → DeskState → SinkState (SlotRest (Unit {0}))
sink_of slot outbox desk = shown slot (held_in outbox) desk
