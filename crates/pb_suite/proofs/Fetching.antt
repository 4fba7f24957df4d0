-- Opening a text and reading it.
use Rattle.std.proofs.Common.{◌≡◌, ◌≤◌, ℕ, List, [], Option, Some, None, ap, length, refl, subst, sym, ◌∙◌}
use Rattle.std.specs.Prelude.{IfOk, IfSome, IsSome, IsTrue, Result}
use Rattle.std.specs.Option.{unwrap_or}
use Rattle.std.specs.declared.result.Result.TheVariants.{Ok, Err}
use Rattle.pb_base.specs.declared.file.File.{File}
use Rattle.pb_desk.specs.View.{Told, View, opened, taken}
use Rattle.pb_desk.specs.Desk.{Advances, DeskState, FailsToRead, IfTold, Reads}
use Rattle.pb_desk.proofs.Readings.{put-same}
use Rattle.pb_desk.proofs.Steps.{reads_by_then, then_fails_to_read}
use Rattle.pb_suite.specs.declared.outcome.Outcome.{Outcome}
use Rattle.pb_suite.specs.inner.Runs.{fetched, Fetches, FetchesPart, StopsFetching, StopsReading}
use Rattle.pb_suite.specs.inner.Runs.StopsFetching.{in_text}
use Rattle.pb_suite.specs.inner.Runs.StopsReading.{not_read, no_memory, refused}
use Rattle.pb_suite.proofs.Opened.{some_is}
use Rattle.pb_suite.proofs.Texts.{told_more}

-- what refuses a text by one relation refuses it by a weaker one
pub reading_weaker : (file : File) (slot : ℕ) (name : List ℕ) (P Q : List ℕ → Outcome → Type 0) → ((text : List ℕ) (answer : Outcome) → P text answer → Q text answer) → (a b : DeskState) (answer : Outcome) → StopsReading file slot name P a b answer → StopsReading file slot name Q a b answer
reading_weaker file slot name P Q gives a b _ (not_read stops) = not_read stops
reading_weaker file slot name P Q gives a b _ (no_memory count reached) = no_memory count reached
reading_weaker file slot name P Q gives a b _ (refused count answer is reached found) =
    refused count answer is reached (told_more a (λ t. (text : List ℕ) × (t.shelf name ≡ Some text) × P text answer) (λ t. (text : List ℕ) × (t.shelf name ≡ Some text) × Q text answer) (λ t has. (has.0, has.1, gives has.0 answer has.2)) found)

module _ (slot : ℕ) (name : List ℕ) (a b d : DeskState) (opens : Reads (opened slot name) a b) where
  pub fetched_by : (count : ℕ) → Reads (taken slot count) b d → Fetches slot name count a d
  fetched_by count takes = reads_by_then (opened slot name) (taken slot count) (fetched slot name count) a b d (λ v. refl) opens takes

  pub fetching_fails : (count : ℕ) → FailsToRead (taken slot count) b d → StopsFetching slot name a d
  fetching_fails count fails =
      in_text count (then_fails_to_read (opened slot name) (taken slot count) (fetched slot name count) a b d (λ v. refl) opens fails)

  pub whole_fetched : {E : Type 0} (r : Result (List ℕ) E) → IfOk r (λ text. Advances slot (length text) b d) → IfOk r (λ text. Fetches slot name (length text) a d)
  whole_fetched (Ok text) takes = fetched_by (length text) takes.reached
  whole_fetched (Err e) takes = tt

  -- of the bytes that the file has
  pub part_fetched : (count : ℕ) → IsTrue d.keeps → Advances slot count b d → IfTold a (λ t. IsSome (t.shelf name)) → FetchesPart slot name count a d
  part_fetched count keeps takes found = record {
    reached = fetched_by count takes.reached;
    on_shelf = by_cases a.view.told found (subst (λ (v : View). IfSome v.told (λ t. count ≤ length (t.left slot))) opens.view (takes.were_left keeps));
  }
    where
      by_text : (o : Option (List ℕ)) → IsSome o → count ≤ length (unwrap_or o []) → (text : List ℕ) × (o ≡ Some text) × (count ≤ length text)
      by_text None has le = cc
      by_text (Some text) has le = (text, refl, le)

      by_cases : (told : Option Told) → IfSome told (λ t. IsSome (t.shelf name)) → IfSome (opened slot name (record a.view { told = told })).told (λ t. count ≤ length (t.left slot)) → IfSome told (λ t. (text : List ℕ) × (t.shelf name ≡ Some text) × (count ≤ length text))
      by_cases None found le = tt
      by_cases (Some t) found le = by_text (t.shelf name) found (subst (λ (xs : List ℕ). count ≤ length xs) (put-same t.left slot (unwrap_or (t.shelf name) [])) le)

  -- the whole text
  pub text_fetched : (text : List ℕ) → IfTold a (λ t. IsSome (t.shelf name)) → IfTold b (λ t. text ≡ t.left slot) → IfTold a (λ t. t.shelf name ≡ Some text)
  text_fetched text found whole = by_cases a.view.told found (subst (λ (v : View). IfSome v.told (λ t. text ≡ t.left slot)) opens.view whole)
    where
      by_cases : (told : Option Told) → IfSome told (λ t. IsSome (t.shelf name)) → IfSome (opened slot name (record a.view { told = told })).told (λ t. text ≡ t.left slot) → IfSome told (λ t. t.shelf name ≡ Some text)
      by_cases None found whole = tt
      by_cases (Some t) found whole = some_is (t.shelf name) found ∙ ap Some (sym (whole ∙ put-same t.left slot (unwrap_or (t.shelf name) [])))
