-- A command that reads a problem first: how it ends where that is not read, and what is so once it was.
use Rattle.std.proofs.Common.{◌≡◌, ◌<◌, ◌∷◌, ℕ, ℤ, List, Option, arith, inl, length, refl, subst, sym}
use Rattle.std.specs.Prelude.{Contains, IsNone}
use Rattle.pb_base.specs.declared.file.File.TheVariants.{Opb}
use Rattle.pb_base.specs.declared.problem.Problem.{Problem}
use Rattle.pb_base.proofs.Members.{Contains-here}
use Rattle.pb_desk.specs.Desk.{DeskState, IfTold, IsSteady, IsTold}
use Rattle.pb_suite.specs.declared.outcome.Outcome.{Outcome}
use Rattle.pb_suite.specs.declared.outcome.Outcome.TheVariants as outcome
use Rattle.pb_suite.specs.CommandSpec.{CommandSpec, HasKind, Shelf, Text}
use Rattle.pb_suite.specs.Denoted.{Denotes, IsDenoted}
use Rattle.pb_suite.specs.Implementing.{Implements}
use Rattle.pb_suite.specs.Outputs.{nothing}
use Rattle.pb_suite.specs.Refusals.{IsUnread, RefusesOpb}
use Rattle.pb_suite.specs.inner.Runs.{Fetches, HasText, IsUnendedIn, KeepsReading, StopsReading}
use Rattle.pb_suite.proofs.Afterwards.{implements_after}
use Rattle.pb_suite.proofs.DenotedProblems.{denoted_by}
use Rattle.pb_suite.proofs.Endings.{IsOpenIn}
use Rattle.pb_suite.proofs.Going.{goes_fetched, Goes}
use Rattle.pb_suite.proofs.Refused.{reading_implements}

module _ (o : CommandSpec) (name : List ℕ) (others : List Text) (first : o.texts ≡ record { kind = Opb; name = name } ∷ others) where
  abbrev text : Text
  text = record { kind = Opb; name = name }

  some_text : 0 < length o.texts
  some_text = subst (λ (ts : List Text). 0 < length ts) (sym first) (omega arith)

  module _ (bound : Option ℤ) {a b : DeskState} where
    pub unread_ends : ((shelf : Shelf) (answer : Outcome) → IsUnread shelf name (RefusesOpb bound) answer → o.stops shelf answer) → (answer : Outcome) → StopsReading Opb 0 name (RefusesOpb bound) a b answer
        → (IsSteady a → answer ≡ outcome.ReadFault → IsTold a (λ t. IsNone (t.shelf name))) → (answer ≡ outcome.ReadFault → IsUnendedIn 0 name b) → (KeepsReading 1 a b → IsUnendedIn 0 name b → IsOpenIn o b) → Implements o a b answer
    unread_ends unread answer stops lacks unended unsettled =
        reading_implements o 0 text some_text (subst (λ (ts : List Text). Contains ts text) (sym first) (Contains-here text others)) (subst (HasKind Opb) (sym first) (inl refl)) (RefusesOpb bound) unread a b answer stops lacks (λ is keeps shelf. unsettled keeps (unended is))

    module _ (read : (count : ℕ) × Fetches 0 name count a b) where
      pub goes_on : Goes (length o.texts) nothing a b
      goes_on = goes_fetched (length o.texts) 0 name read.0 a b some_text read.1

      pub posed : (p : Problem) → HasText name (λ text. Denotes bound text p) a → IfTold b (λ t. IsDenoted t.shelf name bound p)
      posed p denotes = denoted_by name bound p a b goes_on denotes

      pub read_first : (d : DeskState) (answer : Outcome) → Implements o b d answer → Implements o a d answer
      read_first d answer implements = implements_after o a b d goes_on answer implements
