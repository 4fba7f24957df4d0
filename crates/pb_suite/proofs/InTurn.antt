-- Texts behind a problem's are opened only where there is a problem.
use Rattle.std.proofs.Common.{◌≡◌, ◌≤◌, ◌<◌, ◌∙◌, arith, ℕ, ℤ, false, List, Option, Some, None, length, refl, sym}
use Rattle.std.specs.Prelude.{IsTrue}
use Rattle.std.proofs.lemmas.Bool.{true≢false}
use Rattle.pb_base.specs.declared.file.File.{File}
use Rattle.pb_base.specs.declared.problem.Problem.{Problem}
use Rattle.pb_desk.specs.Desk.{DeskState, IsClosed, same}
use Rattle.pb_words.specs.CheckWords.{CheckWords}
use Rattle.pb_words.specs.Parsed.{Wanted}
use Rattle.pb_words.specs.Parsed.Wanted.{Encode, Check, Decode, Probe, Bench, Refute, Map, Wcnf, Optimum}
use Rattle.pb_suite.specs.declared.outcome.Outcome.{Outcome}
use Rattle.pb_suite.specs.CommandSpec.{CommandSpec}
use Rattle.pb_suite.specs.Denoted.{Denotes}
use Rattle.pb_suite.specs.Implementing.{Implements}
use Rattle.pb_suite.specs.InTurn.{NamesProblem, OpensBehind, OpensInTurn}
use Rattle.pb_suite.specs.inner.Opening.{StopsBefore}
use Rattle.pb_suite.specs.inner.Opening.StopsBefore.{not_opened, not_read as not_read_first}
use Rattle.pb_suite.specs.inner.Runs.{fetched, HasText, KeepsReading, StopsReading}
use Rattle.pb_suite.specs.inner.Runs.StopsFetching.{not_open, in_text}
use Rattle.pb_suite.specs.inner.Runs.StopsReading.{not_read, no_memory, refused}
use Rattle.pb_suite.proofs.Going.{by_reading, by_same, goes_fetched, keeps_by}
use Rattle.pb_suite.proofs.SeenChecks.{opening_stays}
use Rattle.pb_suite.proofs.Texts.{told_more}

-- a slot behind the first is closed where that alone was opened
pub still_closed : {few : ℕ} (a d : DeskState) → IsClosed a → KeepsReading few a d → (slot : ℕ) → few ≤ slot → d.view.reading slot ≡ false
still_closed a d closed keeps slot le = keeps slot le ∙ closed.reading slot

-- so it is of a command that reads one text, or none
pub opens_one : (o : CommandSpec) (a d : DeskState) (answer : Outcome) → length o.texts ≤ 1 → IsClosed a → Implements o a d answer → (slot : ℕ) → 0 < slot → d.view.reading slot ≡ false
opens_one o a d answer few closed implements slot some = still_closed a d closed implements.opens slot (omega (arith, few, some))

module _ (name : List ℕ) (bound : Option ℤ) (a d : DeskState) where
  -- there is a problem
  pub posed_behind : (p : Problem) → HasText name (λ text. Denotes bound text p) a → OpensBehind name bound a d
  posed_behind p denotes slot some is_open =
      told_more a (λ t. (text : List ℕ) × (t.shelf name ≡ Some text) × Denotes bound text p) (λ t. NamesProblem name bound t.shelf) (λ t has. (p, record { text = has.0; on_shelf = has.1; denotes = has.2 })) denotes

  -- nothing behind the first slot was opened
  none_behind : IsClosed a → KeepsReading 1 a d → OpensBehind name bound a d
  none_behind closed keeps slot some is_open = absurd (true≢false (sym is_open ∙ still_closed a d closed keeps slot (omega (arith, some))))

  reading_keeps : (file : File) (P : List ℕ → Outcome → Type 0) (answer : Outcome) → StopsReading file 0 name P a d answer → KeepsReading 1 a d
  reading_keeps file P _ (not_read (not_open fails)) = keeps_by 1 same a d (by_same 1) fails.view
  reading_keeps file P _ (not_read (in_text count fails)) = keeps_by 1 (fetched 0 name count) a d (by_reading 1 0 name count (omega arith)) fails.view
  reading_keeps file P _ (no_memory count reached) = (goes_fetched 1 0 name count a d (omega arith) reached).reading
  reading_keeps file P _ (refused count answer is reached found) = (goes_fetched 1 0 name count a d (omega arith) reached).reading

  -- the problem's text was not read
  pub unread_behind : (file : File) (P : List ℕ → Outcome → Type 0) (answer : Outcome) → IsClosed a → StopsReading file 0 name P a d answer → OpensBehind name bound a d
  unread_behind file P answer closed stops = none_behind closed (reading_keeps file P answer stops)

-- the problem of a check was not read, or a text behind it was not opened
pub before_behind : (w : CheckWords) (a d : DeskState) → IsTrue d.keeps → (answer : Outcome) → IsClosed a → StopsBefore w a d answer → OpensBehind w.opb w.bound a d
before_behind w a d kept _ closed (not_read_first answer stops lacks unended) = unread_behind w.opb w.bound a d _ _ answer closed stops
before_behind w a d kept _ closed (not_opened p between read stops) = posed_behind w.opb w.bound a d p (read.denotes ((opening_stays w.cnf w.proof between d stops).kept kept))

-- where nothing is open
pub closed_in_turn : (w : Wanted) (a : DeskState) → IsClosed a → OpensInTurn w a a
closed_in_turn (Encode w) a closed = λ slot some. closed.reading slot
closed_in_turn (Check w) a closed = none_behind w.opb w.bound a a closed (λ slot le. refl)
closed_in_turn (Decode w) a closed = none_behind w.opb w.bound a a closed (λ slot le. refl)
closed_in_turn (Probe w) a closed = λ slot some. closed.reading slot
closed_in_turn (Bench w) a closed = λ slot some. closed.reading slot
closed_in_turn (Refute w) a closed = none_behind w.checked.opb w.checked.bound a a closed (λ slot le. refl)
closed_in_turn (Map w) a closed = λ slot some. closed.reading slot
closed_in_turn (Wcnf w) a closed = λ slot some. closed.reading slot
closed_in_turn (Optimum w) a closed = none_behind w.opb None a a closed (λ slot le. refl)
