-- A text that was not read to its end, or is refused, ends a command.
use Rattle.std.proofs.Common.{◌≡◌, ◌+◌, arith, ℕ, List, Some, refl, ◌<◌, length}
use Rattle.std.specs.Prelude.{Contains, IsNone}
use Rattle.pb_base.specs.declared.file.File.{File}
use Rattle.pb_desk.specs.Desk.{DeskState, IfTold, IsSteady, IsTold, same}
use Rattle.pb_suite.specs.declared.outcome.Outcome.{Outcome}
use Rattle.pb_suite.specs.declared.outcome.Outcome.TheVariants as outcome
use Rattle.pb_suite.specs.Implementing.{IsRefusal, Implements}
use Rattle.pb_suite.specs.CommandSpec.{HasKind, CommandSpec, Text}
use Rattle.pb_suite.specs.Refusals.{IsUnread}
use Rattle.pb_suite.specs.Refusals.IsUnread.{lacks as absent, refuses as refusal}
use Rattle.pb_suite.specs.inner.Runs.{fetched, HasText, KeepsReading, RefusesFile, StopsReading}
use Rattle.pb_suite.specs.inner.Runs.RefusesFile.{token, limit}
use Rattle.pb_suite.specs.inner.Runs.StopsFetching.{not_open, in_text}
use Rattle.pb_suite.specs.inner.Runs.StopsReading.{not_read, no_memory, refused}
use Rattle.pb_suite.proofs.Endings.{bare_memory, is_refused, is_unread, IsOpenIn}
use Rattle.pb_suite.proofs.Going.{by_reading, by_same, goes_fetched, keeps_by, shelf_stays, KeepsShelf}
use Rattle.pb_suite.specs.CommandSpec.{Shelf}
use Rattle.pb_suite.proofs.Texts.{told_more, told_none}

is_refusal : (texts : List Text) (file : File) (answer : Outcome) → HasKind file texts → RefusesFile file answer → IsRefusal texts answer
is_refusal texts file _ has (token place expected) = has
is_refusal texts file _ has (limit place which) = has

module _ (o : CommandSpec) (slot : ℕ) (text : Text) (in_texts : slot < length o.texts) (has : Contains o.texts text) (of_kind : HasKind text.kind o.texts) (refuses_text : List ℕ → Outcome → Type 0) (a b : DeskState) where
  -- where a refusal of the text is due by what the desk tells
  pub reading_ends : (IsTold a (λ t. IsNone (t.shelf text.name)) → IsTold a (λ t. o.stops t.shelf outcome.ReadFault)) → ((answer : Outcome) → HasText text.name (λ bytes. refuses_text bytes answer) a → IfTold a (λ t. o.stops t.shelf answer))
      → (answer : Outcome) → StopsReading text.kind slot text.name refuses_text a b answer → (IsSteady a → answer ≡ outcome.ReadFault → IsTold a (λ t. IsNone (t.shelf text.name))) → (answer ≡ outcome.ReadFault → KeepsReading (slot + 1) a b → KeepsShelf a b → IsOpenIn o b) → Implements o a b answer
  reading_ends none due _ (not_read (not_open fails)) lacks unsettled =
      is_unread o a b same (by_same (length o.texts)) fails (λ steady. (text, has, lacks steady refl, none (lacks steady refl))) (unsettled refl (keeps_by (slot + 1) same a b (by_same (slot + 1)) fails.view) (shelf_stays same a b (by_same (slot + 1)) fails))
  reading_ends none due _ (not_read (in_text count fails)) lacks unsettled =
      is_unread o a b (fetched slot text.name count) (by_reading (length o.texts) slot text.name count in_texts) fails (λ steady. (text, has, lacks steady refl, none (lacks steady refl)))
      (unsettled refl (keeps_by (slot + 1) (fetched slot text.name count) a b (by_reading (slot + 1) slot text.name count (omega arith)) fails.view) (shelf_stays (fetched slot text.name count) a b (by_reading (slot + 1) slot text.name count (omega arith)) fails))
  reading_ends none due _ (no_memory count reached) lacks unsettled = bare_memory o a b (goes_fetched (length o.texts) slot text.name count a b in_texts reached)
  reading_ends none due _ (refused count answer is reached found) lacks unsettled =
      is_refused o a b answer (goes_fetched (length o.texts) slot text.name count a b in_texts reached) (is_refusal o.texts text.kind answer of_kind is) (due answer found)

module _ (o : CommandSpec) (slot : ℕ) (text : Text) (in_texts : slot < length o.texts) (has : Contains o.texts text) (of_kind : HasKind text.kind o.texts) (refuses_text : List ℕ → Outcome → Type 0)
    (unread : (shelf : Shelf) (answer : Outcome) → IsUnread shelf text.name refuses_text answer → o.stops shelf answer) (a b : DeskState) where
  pub reading_implements : (answer : Outcome) → StopsReading text.kind slot text.name refuses_text a b answer → (IsSteady a → answer ≡ outcome.ReadFault → IsTold a (λ t. IsNone (t.shelf text.name))) → (answer ≡ outcome.ReadFault → KeepsReading (slot + 1) a b → KeepsShelf a b → IsOpenIn o b) → Implements o a b answer
  reading_implements answer stops lacks unsettled =
      reading_ends o slot text in_texts has of_kind refuses_text a b (told_none a (λ shelf. shelf text.name) (λ shelf. o.stops shelf outcome.ReadFault) (λ shelf is. unread shelf outcome.ReadFault (absent is)))
      (λ answer found. told_more a (λ t. (bytes : List ℕ) × (t.shelf text.name ≡ Some bytes) × refuses_text bytes answer) (λ t. o.stops t.shelf answer) (λ t found. unread t.shelf answer (refusal found.0 answer found.1 found.2)) found)
      answer stops lacks unsettled
