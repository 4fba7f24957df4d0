-- A sink of lines in memory, each behind the same lead. Our own.
use Rattle.std.specs.Prelude.{ℕ, List}
use Rattle.pb_family.specs.Sinks.{SinkState}
use Rattle.pb_family.specs.TextSinks.{in_memory}

abbrev pub led_in_memory : List ℕ → List ℕ → ℕ → SinkState (Unit {0})
led_in_memory lead text faults = record (in_memory text faults) { lead = lead }
