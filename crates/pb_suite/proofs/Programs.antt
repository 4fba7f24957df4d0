-- How the program ends.
use Rattle.std.proofs.Common.{◌≡◌, ◌⊎◌, inl, inr, Option, Some, None, refl, sym, subst}
use Rattle.std.specs.Option.{ForSome}
use Rattle.pb_desk.specs.Desk.{DeskState}
use Rattle.pb_words.specs.Parsed.{Wanted}
use Rattle.pb_suite.specs.declared.outcome.Outcome.{Outcome}
use Rattle.pb_suite.specs.declared.outcome.Outcome.TheVariants as outcome
use Rattle.pb_suite.specs.CommandSpecs.{spec_of}
use Rattle.pb_suite.specs.Derivations.{AreAccepted, Derivations}
use Rattle.pb_suite.specs.Implementing.{Implements}
use Rattle.pb_suite.specs.Programs.{AnswersSome}
use Rattle.pb_suite.specs.Programs.AnswersSome.{asked, usage, no_memory}
use Rattle.pb_suite.specs.Seen.{seen_from}

-- of words that ask for nothing
pub left_alone : (a b : DeskState) (answer : Outcome) → (answer ≡ outcome.Usage) ⊎ (answer ≡ outcome.NoMemory) → b ≡ a → AnswersSome a b answer
left_alone a b _ (inl is) same = subst (AnswersSome a b) (sym is) (usage same)
left_alone a b _ (inr is) same = subst (AnswersSome a b) (sym is) (no_memory same)

-- of any words, by what a run promises
pub answers_some : (derive : Derivations) → AreAccepted derive → (found : Option Wanted) (a b : DeskState) (answer : Outcome) → ForSome found (λ w. Implements (spec_of derive w) (seen_from b a) (seen_from b b) answer)
    → (found ≡ None → (answer ≡ outcome.Usage) ⊎ (answer ≡ outcome.NoMemory)) → (found ≡ None → b ≡ a) → AnswersSome a b answer
answers_some derive accepted (Some w) a b answer implemented taken unmoved = asked derive accepted w answer (implemented w refl)
answers_some derive accepted None a b answer implemented taken unmoved = left_alone a b answer (taken refl) (unmoved refl)
