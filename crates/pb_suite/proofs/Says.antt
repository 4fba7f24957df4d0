-- How saying its line ends a command that is to do so.
use Rattle.std.proofs.Common.{ℕ, List, length, take, ap, inr}
use Rattle.std.specs.Prelude.{IsSome}
use Rattle.pb_desk.specs.View.{View, spoke}
use Rattle.pb_desk.specs.Desk.{DeskState, IfTold, IsSteady, LacksRoom, Reaches, StopsIn, same, words}
use Rattle.pb_suite.specs.declared.outcome.Outcome.{Outcome}
use Rattle.pb_suite.specs.declared.outcome.Outcome.TheVariants as outcome
use Rattle.pb_suite.specs.Implementing.{Implements}
use Rattle.pb_suite.specs.Outputs.{nothing, only_words}
use Rattle.pb_suite.specs.Outputs.IsPartOf.{of_words}
use Rattle.pb_suite.specs.Outputs.LacksFor.{no_words}
use Rattle.pb_suite.specs.CommandSpec.{MayStand, CommandSpec}
use Rattle.pb_suite.specs.inner.Saying.{EndsSaying, EndsTelling}
use Rattle.pb_suite.specs.inner.Saying.EndsSaying.{whole, cut_off}
use Rattle.pb_suite.specs.inner.Saying.EndsTelling.{says, no_memory}
use Rattle.pb_suite.proofs.Endings.{all_done, bare_memory, is_unwritten}
use Rattle.pb_suite.proofs.Going.{by_same, by_words, goes_by}
use Rattle.pb_suite.proofs.Texts.{is_told_so, told_more}

module _ (o : CommandSpec) (line : List ℕ) (b d : DeskState) (tells : IsSteady b → IsSome b.view.told) (due : IfTold b (λ t. o.done t.shelf (only_words line))) where
  said_implements : Reaches (spoke line) b d → Implements o b d outcome.Done
  said_implements far = all_done o b d (only_words line) (goes_by (length o.texts) (only_words line) (spoke line) b d (by_words (length o.texts) line) far) (λ slot. ap (λ (v : View). v.writing slot) far.view) due

  cut_off_implements : StopsIn line spoke b d → (IsSteady b → LacksRoom words (length line) b) → Implements o b d outcome.WriteFault
  cut_off_implements stop lacks =
      is_unwritten o b d (only_words (take stop.count line)) (spoke (take stop.count line)) (by_words (length o.texts) (take stop.count line)) stop.fails
      (told_more b (λ t. o.done t.shelf (only_words line)) (λ t. MayStand o t.shelf (only_words (take stop.count line))) (λ t holds. inr (only_words line, holds, of_words stop.count)) due)
      (λ steady. (only_words line, is_told_so b (λ t. o.done t.shelf (only_words line)) (λ t. o.done t.shelf (only_words line)) (λ t holds. holds) (tells steady) due, no_words (lacks steady)))

  pub saying_implements : (answer : Outcome) → EndsSaying line b d answer → Implements o b d answer
  saying_implements _ (whole far) = said_implements far
  saying_implements _ (cut_off stop lacks) = cut_off_implements stop lacks

  pub telling_implements : (answer : Outcome) → EndsTelling line b d answer → Implements o b d answer
  telling_implements _ (says answer ends) = saying_implements answer ends
  telling_implements _ (no_memory far) = bare_memory o b d (goes_by (length o.texts) nothing same b d (by_same (length o.texts)) far)
