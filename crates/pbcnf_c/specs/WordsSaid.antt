-- What the call that says a refusal in words answers. Our own.
use Rattle.std.specs.Prelude.{ℕ, ◌≡◌, ◌≢◌, ◌≤◌, ◌<◌, ◌^◌, List, length, ◌==◌, ◌&&◌, ◌||◌, ◌++◌, codes, decimal, if◌then◌else◌, Option, Some, None}
use Rattle.pb_base.specs.declared.place.Place.{Place}
use Rattle.pb_base.specs.Phrases.{limit_word}
use Rattle.pb_steps.specs.declared.denied.Denied.{Denied}
use Rattle.pb_steps.specs.declared.denied.Denied.TheVariants as denied
use Rattle.pb_suite.specs.declared.outcome.Outcome.{Outcome}
use Rattle.pb_suite.specs.declared.outcome.Outcome.TheVariants as outcome
use Rattle.pb_suite.specs.FaultLines.{outcome_words}
use Rattle.pb_suite.specs.Statuses.{status_of}
use Rattle.pbcnf_c.specs.declared.refusal.PbcnfRefusal.{PbcnfRefusal}
use Rattle.pbcnf_c.specs.Refusals.{refusal_of}
use Rattle.pbcnf_c.specs.Rooms.{Ends}

-- ---- outcomes as calls have them

abbrev pub HasLine : Option Place → Type 0
HasLine None = Unit {0}
HasLine (Some place) = 1 ≤ place.line

abbrev pub IsVariable : ℕ → Type 0
IsVariable n = (1 ≤ n) × (n < 2 ^ 31)

abbrev pub NamesVariable : Denied → Type 0
NamesVariable (denied.UnknownVar var) = IsVariable var
NamesVariable (denied.SetsOriginal var) = IsVariable var
NamesVariable other = Unit {0}

-- Lines count from 1, a limit that no text is to blame for has no place, variables are in their range, and no call fails to read.
abbrev pub IsProper : Outcome → Type 0
IsProper (outcome.Refused file place expected) = 1 ≤ place.line
IsProper (outcome.Limit (Some file) which place) = HasLine place
IsProper (outcome.Limit None which (Some place)) = ⊥
IsProper (outcome.Rejected line denied) = NamesVariable denied
IsProper outcome.ReadFault = ⊥
IsProper other = Unit {0}

-- ---- words of calls

-- the numbers of an outcome, with that of the constraint to blame where one can be
abbrev pub blamed : ℕ → Outcome → PbcnfRefusal
blamed at outcome.Usage = record (refusal_of outcome.Usage) { number = at }
blamed at (outcome.Limit None which place) = record (refusal_of (outcome.Limit None which place)) { number = at }
blamed at other = refusal_of other

-- what is to blame: a constraint, or what these words say
abbrev pub blame_words : ℕ → List ℕ → List ℕ
blame_words at all = codes "pbcnf: " ++ (if at == 0 then all else codes "constraint " ++ decimal at) ++ codes ": "

-- The words of the program, but where a call has no command line, a room in place of a file, and a constraint to blame.
abbrev pub call_words : ℕ → Outcome → List ℕ
call_words at outcome.Usage = blame_words at (codes "usage") ++ codes "a number is out of its range"
call_words at (outcome.Limit None which place) = blame_words at (codes "totals") ++ codes "limit " ++ limit_word which
call_words at outcome.WriteFault = codes "pbcnf: the room is too small"
call_words at other = outcome_words other

-- ---- the call

-- The words are those of an outcome that has these numbers, and of the constraint to blame.
pub record AreWordsOf (refusal : PbcnfRefusal) (words : List ℕ) (count : ℕ) : Type 0 where
  pub told : Outcome
  pub at : ℕ
  pub has_numbers : refusal ≡ blamed at told
  pub words_are : words ≡ call_words at told
  pub count_is : count ≡ length words

-- no call has these numbers, or memory was wanting
pub data StopsSaying (refusal : PbcnfRefusal) : Outcome → Type 0 where
  unknown : ((at : ℕ) (o : Outcome) → IsProper o → refusal ≢ blamed at o) → StopsSaying refusal outcome.Usage
  no_memory : StopsSaying refusal outcome.NoMemory

-- The words are put, or their length told, or why there are none.
abbrev pub SaysRefusal : PbcnfRefusal → List ℕ → List ℕ → ℕ → Outcome → Type 0
SaysRefusal refusal old new count answer = Ends (AreWordsOf refusal) (StopsSaying refusal) 0 old new count answer

-- the status is that of an outcome of which this is so
pub record HasStatusOf (P : Outcome → Type 0) (status : ℕ) : Type 0 where
  pub answer : Outcome
  pub holds : P answer
  pub status_is : status ≡ status_of answer
