-- What follows for a run from its command being implemented.
use Rattle.std.proofs.Common.{◌≡◌, ◌≢◌, ◌∙◌, ℕ, List, Some, sym, subst, false, length}
use Rattle.std.specs.Option.{ForSome}
use Rattle.pb_desk.specs.Desk.{DeskState, IsClosed}
use Rattle.pb_words.specs.Parsed.{Wanted, parsed_of}
use Rattle.pb_suite.specs.declared.outcome.Outcome.{Outcome}
use Rattle.pb_suite.specs.declared.outcome.Outcome.TheVariants as outcome
use Rattle.pb_suite.specs.Implementing.{Answers, Counts, IsQuiet, IsRefusal, Implements}
use Rattle.pb_suite.specs.Implementing.Answers.{done, refused, read_fault, write_fault, no_memory}
use Rattle.pb_suite.specs.CommandSpec.{CommandSpec}
use Rattle.pb_suite.specs.Seen.{seen_from}
use Rattle.pb_suite.proofs.Endings.{bare_memory}
use Rattle.pb_suite.proofs.Going.{stays}

-- ---- of any command

module _ (o : CommandSpec) (a b : DeskState) where
  pub not_usage : (answer : Outcome) → Answers o a b answer → answer ≢ outcome.Usage
  not_usage _ (done out due adds stays) e = cc
  not_usage _ (refused answer is due adds) e = subst (IsRefusal o.texts) e is
  not_usage _ (read_fault adds) e = cc
  not_usage _ (write_fault out part adds) e = cc
  not_usage _ (no_memory out part adds held silent) e = cc

  pub all_ended : IsClosed a → (answer : Outcome) → Answers o a b answer → answer ≡ outcome.Done → (slot : ℕ) → b.view.writing slot ≡ false
  all_ended closed _ (done out due adds stays) e slot = stays slot ∙ closed.writing slot
  all_ended closed _ (refused answer is due adds) e slot = absurd (subst (IsRefusal o.texts) e is)
  all_ended closed _ (read_fault adds) e slot = cc
  all_ended closed _ (write_fault out part adds) e slot = cc
  all_ended closed _ (no_memory out part adds held silent) e slot = cc

-- ---- of a desk that is seen from its end, whose counts are not hidden

module _ (a d : DeskState) where
  quiet_so : IsQuiet (seen_from d a) (seen_from d d) → IsQuiet a d
  quiet_so quiet = record { reads = quiet.reads; writes = quiet.writes }

  pub counts_so : (answer : Outcome) → Counts (seen_from d a) (seen_from d d) answer → Counts a d answer
  counts_so outcome.Done counts = quiet_so counts
  counts_so (outcome.Refused file place expected) counts = quiet_so counts
  counts_so outcome.Usage counts = quiet_so counts
  counts_so (outcome.Limit file which place) counts = quiet_so counts
  counts_so outcome.ReadFault counts = counts
  counts_so outcome.WriteFault counts = counts
  counts_so outcome.NoMemory counts = counts
  counts_so (outcome.Rejected line denied) counts = quiet_so counts
  counts_so (outcome.NotASolution statement) counts = quiet_so counts
  counts_so outcome.NoModel counts = quiet_so counts
  counts_so outcome.NoObjective counts = quiet_so counts
  counts_so (outcome.NotRefuted line why) counts = quiet_so counts

-- ---- of the command of the words

-- what holds of all that is asked for, of words that ask for this
pub asked_so : (words : List (List ℕ)) (w : Wanted) (P : Wanted → Type 0) → parsed_of words ≡ Some w → P w → ForSome (parsed_of words) P
asked_so words w P is holds = λ v named. let same : Some w ≡ Some v = sym is ∙ named in let wanted : w ≡ v = cc in subst P wanted holds

-- words that were not taken for want of memory
pub memory_obeyed : (o : CommandSpec) (a : DeskState) → Implements o a a outcome.NoMemory
memory_obeyed o a = bare_memory o a a (stays (length o.texts) a)
