-- What calls do to the memory that they are passed, and what they tell. Our own.
use Rattle.std.specs.Prelude.{ℕ, ◌≡◌, ◌≤◌, ◌<◌, List, ◌++◌, drop, length}
use Rattle.pb_suite.specs.declared.outcome.Outcome.{Outcome}
use Rattle.pb_suite.specs.declared.outcome.Outcome.TheVariants as outcome
use Rattle.pb_suite.specs.Statuses.{status_of}
use Rattle.pbcnf_c.specs.declared.refusal.PbcnfRefusal.{PbcnfRefusal}
use Rattle.pbcnf_c.specs.Refusals.{refusal_of}

-- The items stand at the front of the room, and behind them what stood there; or there is no room for them, and it is as it was.
pub data Fills {X : Type 0} (items old new : List X) : Outcome → Type 0 where
  whole : length items ≤ length old → new ≡ items ++ drop (length items) old → Fills items old new outcome.Done
  short : length old < length items → new ≡ old → Fills items old new outcome.WriteFault

-- How a call ends that makes items and tells their size: they are put into the room, or there is no room for them, and in both cases their size is told; or it stops without them, leaves the room as it was, and tells no size.
pub data Ends {X S : Type 0} (Made : List X → S → Type 0) (Stops : Outcome → Type 0) (none : S) (old new : List X) (told : S) : Outcome → Type 0 where
  made : (items : List X) (answer : Outcome) → Made items told → Fills items old new answer → Ends Made Stops none old new told answer
  stopped : (answer : Outcome) → Stops answer → new ≡ old → told ≡ none → Ends Made Stops none old new told answer

-- the status, and the numbers beside it, are those of an outcome of which this is so
pub record Tells (P : Outcome → Type 0) (status : ℕ) (refusal : PbcnfRefusal) : Type 0 where
  pub answer : Outcome
  pub holds : P answer
  pub status_is : status ≡ status_of answer
  pub refusal_is : refusal ≡ refusal_of answer

-- the same, where the refusal's number is that of the constraint to blame
pub record TellsAt (P : ℕ → Outcome → Type 0) (status : ℕ) (refusal : PbcnfRefusal) : Type 0 where
  pub answer : Outcome
  pub holds : P refusal.number answer
  pub status_is : status ≡ status_of answer
  pub refusal_is : refusal ≡ record (refusal_of answer) { number = refusal.number }
