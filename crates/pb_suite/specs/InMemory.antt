-- How a run on files in memory ends, of which no call is to fail. Our own.
use Rattle.std.specs.Prelude.{ℕ, ◌<◌, Contains, length, IsNone}
use Rattle.pb_desk.specs.View.{Made}
use Rattle.pb_suite.specs.declared.outcome.Outcome.{Outcome}
use Rattle.pb_suite.specs.declared.outcome.Outcome.TheVariants as outcome
use Rattle.pb_suite.specs.Implementing.{IsRefusal}
use Rattle.pb_suite.specs.Outputs.{Fits, Output}
use Rattle.pb_suite.specs.CommandSpec.{CommandSpec, Shelf, Text}

-- why an output cannot be made and said: a name is too long, or there is no room for a file or for the words
pub data Overflows (most : ℕ) (out : Output) : Type 0 where
  long_name : (file : Made) → Contains out.made file → 255 < length file.name → Overflows most out
  long_file : (file : Made) → Contains out.made file → most < length file.bytes → Overflows most out
  long_words : most < length out.said → Overflows most out

-- All that is due was made and said, and there was room for it; or the due refusal is told; or a text is not on the shelf; or what is due overflows; or memory was wanting.
pub data AnswersInMemory (o : CommandSpec) (shelf : Shelf) (most : ℕ) : Outcome → Type 0 where
  done : (out : Output) → o.done shelf out → Fits most out → AnswersInMemory o shelf most outcome.Done
  refused : (answer : Outcome) → IsRefusal o.texts answer → o.stops shelf answer → AnswersInMemory o shelf most answer
  read_fault : (text : Text) → Contains o.texts text → IsNone (shelf text.name) → o.stops shelf outcome.ReadFault → AnswersInMemory o shelf most outcome.ReadFault
  write_fault : (out : Output) → o.done shelf out → Overflows most out → AnswersInMemory o shelf most outcome.WriteFault
  no_memory : AnswersInMemory o shelf most outcome.NoMemory
