-- What follows of a command that is done: that all that was due was made and said.
use Rattle.std.proofs.Common.{◌≡◌, Option, Some, None, subst}
use Rattle.std.specs.Prelude.{IfSome, IsSomeAnd}
use Rattle.pb_desk.specs.View.{Told}
use Rattle.pb_desk.specs.Desk.{DeskState, IfTold, IsTold}
use Rattle.pb_suite.specs.declared.outcome.Outcome.{Outcome}
use Rattle.pb_suite.specs.declared.outcome.Outcome.TheVariants as outcome
use Rattle.pb_suite.specs.CommandSpec.{CommandSpec}
use Rattle.pb_suite.specs.Implementing.{Answers, IsRefusal, Implements}
use Rattle.pb_suite.specs.Implementing.Answers.{done, refused, read_fault, write_fault, no_memory}
use Rattle.pb_suite.specs.Outputs.{Adds, IsMore, Output}
use Rattle.pb_suite.proofs.Texts.{told_more}

module _ (o : CommandSpec) (a b : DeskState) where
  by_output : (answer : Outcome) → answer ≡ outcome.Done → Answers o a b answer → (out : Output) × IfTold a (λ t. o.done t.shelf out) × Adds out a b
  by_output _ is (done out due adds stays) = (out, due, adds)
  by_output _ is (refused answer refusal due adds) = absurd (subst (IsRefusal o.texts) is refusal)
  by_output _ is (read_fault adds) = cc
  by_output _ is (write_fault out part adds) = cc
  by_output _ is (no_memory out part adds held silent) = cc

  -- what follows of the texts alone
  pub done_so : (P : Told → Type 0) → ((t : Told) (out : Output) → o.done t.shelf out → P t) → (answer : Outcome) → answer ≡ outcome.Done → Implements o a b answer → IfTold a P
  done_so P gives answer is implements =
      let made = by_output answer is implements.answers in
      told_more a (λ t. o.done t.shelf made.0) P (λ t due. gives t made.0 due) made.1

  -- and of what was added
  pub added_so : (P : Told → Told → Type 0) → ((t u : Told) (out : Output) → o.done t.shelf out → IsMore out t u → P t u) → (answer : Outcome) → answer ≡ outcome.Done → Implements o a b answer → IfTold a (λ t. IsTold b (P t))
  added_so P gives answer is implements =
      let made = by_output answer is implements.answers in
      by_told a.view.told b.view.told made.0 made.1 made.2.told
    where
      by_told : (x y : Option Told) (out : Output) → IfSome x (λ t. o.done t.shelf out) → IfSome x (λ t. IsSomeAnd y (IsMore out t)) → IfSome x (λ t. IsSomeAnd y (P t))
      by_told None y out due more = tt
      by_told (Some t) None out due more = absurd more
      by_told (Some t) (Some u) out due more = gives t u out due more
