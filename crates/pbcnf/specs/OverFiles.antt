-- How a run ends over files that are supposed, as the record of the system's calls shows it. Our own.
use Rattle.std.specs.Prelude.{ℕ, ◌≡◌, true, List, [], Option}
use Rattle.std.specs.Option.{ForSome}
use Rattle.pb_desk.specs.View.{Told}
use Rattle.pb_files.specs.Calls.{Call}
use Rattle.pb_files.specs.Replay.{made_of, said_of, told_of}
use Rattle.pb_words.specs.EncodeWords.{EncodeWords}
use Rattle.pb_words.specs.Parsed.{Wanted}
use Rattle.pb_words.specs.Parsed.Wanted.{Encode, Check, Refute, Wcnf, Optimum}
use Rattle.pb_suite.specs.declared.outcome.Outcome.{Outcome}
use Rattle.pb_suite.specs.declared.outcome.Outcome.TheVariants as outcome
use Rattle.pb_suite.specs.CommandSpec.{CommandSpec, MayStand, Shelf}
use Rattle.pb_suite.specs.CommandSpecs.{spec_of}
use Rattle.pb_suite.specs.Derivations.{AreAccepted, Derivations}
use Rattle.pb_suite.specs.FaultLines.{fault_line, IsToldNext}
use Rattle.pb_suite.specs.Headline.{HasNoSolution, IsExtended, MakesDerivation, MakesEncoding, MakesWeighing}
use Rattle.pb_suite.specs.Implementing.{IsRefusal}
use Rattle.pb_suite.specs.Outputs.{nothing, Output}
use Rattle.pb_suite.specs.SaidBounds.{SaysBounds}
use Rattle.pb_suite.specs.SaidOptima.{SaysOptimum}
use Rattle.pb_suite.specs.Statuses.{status_of}

-- what was made and said, as the calls show it
abbrev pub output_of : List Call → Output
output_of calls = record { made = made_of calls; said = said_of calls }

-- All that is specified was made and said; or the refusal that is specified is told, or a read failed, and nothing was; or a write failed, or memory was wanting before a word was said, and a first part was.
pub data EndsOver (files : Shelf) (out : Output) (o : CommandSpec) : Outcome → Type 0 where
  done : o.done files out → EndsOver files out o outcome.Done
  refused : (answer : Outcome) → IsRefusal o.texts answer → o.stops files answer → out ≡ nothing → EndsOver files out o answer
  read_fault : out ≡ nothing → EndsOver files out o outcome.ReadFault
  write_fault : MayStand o files out → EndsOver files out o outcome.WriteFault
  no_memory : MayStand o files out → out.said ≡ [] → EndsOver files out o outcome.NoMemory

-- What encode made of the text: a CNF that encodes it, a derivation that is accepted, where one was asked for, and the rows of its table, where one was.
pub record Encodes (w : EncodeWords) (old new : Told) : Type 0 where
  pub encoding : MakesEncoding w old new
  pub derivation : ForSome w.proof (λ name. MakesDerivation w name old new)
  pub bounds : w.options.table ≡ true → SaysBounds w old new

-- what it says of the files that words are done; of the words of other commands it says nothing more than what is specified
abbrev pub Headline : Wanted → Told → Told → Type 0
Headline (Encode w) old new = Encodes w old new
Headline (Check w) old new = IsExtended w old.shelf
Headline (Refute w) old new = HasNoSolution w old.shelf
Headline (Wcnf w) old new = MakesWeighing w old new
Headline (Optimum w) old new = SaysOptimum w old new
Headline other old new = Unit {0}

-- Some words ended as they are specified, with derivations that are accepted, and if they are done, this says of the files what it is to say. Or the words asked for nothing, or memory was wanting for them, and nothing was made or said.
pub data EndsSome (files : Shelf) (calls : List Call) : Outcome → Type 0 where
  asked : (derive : Derivations) → AreAccepted derive → (w : Wanted) (answer : Outcome) → EndsOver files (output_of calls) (spec_of derive w) answer → (answer ≡ outcome.Done → Headline w (told_of files []) (told_of files calls)) → EndsSome files calls answer
  usage : output_of calls ≡ nothing → EndsSome files calls outcome.Usage
  no_memory : output_of calls ≡ nothing → EndsSome files calls outcome.NoMemory

-- an exit status that stands for such an answer, and the line that tells it, between what was told before and now
pub record ExitsOver (files : Shelf) (calls : List Call) (before now : Option (List ℕ)) (status : ℕ) : Type 0 where
  pub answer : Outcome
  pub ends : EndsSome files calls answer
  pub status_is : status ≡ status_of answer
  pub line : IsToldNext (fault_line answer) before now
