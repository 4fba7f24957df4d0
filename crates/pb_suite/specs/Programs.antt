-- How the program ends, whose words the system gives. Our own.
use Rattle.std.specs.Prelude.{ℕ, List, Option, ◌≡◌}
use Rattle.pb_desk.specs.Desk.{DeskState}
use Rattle.pb_words.specs.Parsed.{Wanted}
use Rattle.pb_suite.specs.declared.outcome.Outcome.{Outcome}
use Rattle.pb_suite.specs.declared.outcome.Outcome.TheVariants as outcome
use Rattle.pb_suite.specs.CommandSpecs.{spec_of}
use Rattle.pb_suite.specs.Derivations.{AreAccepted, Derivations}
use Rattle.pb_suite.specs.FaultLines.{fault_line, IsToldNext}
use Rattle.pb_suite.specs.Implementing.{Implements}
use Rattle.pb_suite.specs.Seen.{seen_from}
use Rattle.pb_suite.specs.Statuses.{status_of}

-- What some words ask for was done as it is specified, with derivations that are accepted, over the desk as it is seen from its end; or the words ask for nothing, or memory was wanting for them, and the desk is left alone.
pub data AnswersSome (old new : DeskState) : Outcome → Type 0 where
  asked : (derive : Derivations) → AreAccepted derive → (w : Wanted) → (answer : Outcome) → Implements (spec_of derive w) (seen_from new old) (seen_from new new) answer → AnswersSome old new answer
  usage : new ≡ old → AnswersSome old new outcome.Usage
  no_memory : new ≡ old → AnswersSome old new outcome.NoMemory

-- an exit status that stands for such an answer, and the line that tells it, between what was told before and now
pub record Exits (old new : DeskState) (before now : Option (List ℕ)) (status : ℕ) : Type 0 where
  pub answer : Outcome
  pub answers : AnswersSome old new answer
  pub status_is : status ≡ status_of answer
  pub line : IsToldNext (fault_line answer) before now
