-- A text that is there is read, or refused by one outcome.
use Rattle.std.proofs.Common.{◌≡◌, ◌∙◌, ℕ, ℤ, List, Option, Some, None, refl, subst, sym}
use Rattle.pb_base.specs.declared.problem.Problem.{Problem}
use Rattle.pb_suite.specs.declared.outcome.Outcome.{Outcome}
use Rattle.pb_suite.specs.CommandSpec.{Shelf}
use Rattle.pb_suite.specs.Denoted.{IsDenoted}
use Rattle.pb_suite.specs.Refusals.{IsUnread, RefusesOpb}
use Rattle.pb_suite.specs.Refusals.IsUnread.{lacks, refuses}
use Rattle.pb_suite.proofs.DenotedProblems.{denotes_unrefused}

pub same_some : {X : Type 0} (o : Option X) (x y : X) → o ≡ Some x → o ≡ Some y → x ≡ y
same_some o x y first second = let same : Some x ≡ Some y = sym first ∙ second in cc

pub not_none : {X : Type 0} (o : Option X) (x : X) → o ≡ Some x → o ≡ None → ⊥
not_none o x some none = let no : Some x ≡ None = sym some ∙ none in cc

pub unread_one : (shelf : Shelf) (name : List ℕ) (Refuses : List ℕ → Outcome → Type 0) → ((text : List ℕ) (a b : Outcome) → Refuses text a → Refuses text b → a ≡ b)
    → (a b : Outcome) → IsUnread shelf name Refuses a → IsUnread shelf name Refuses b → a ≡ b
unread_one shelf name Refuses one _ _ (lacks none) (lacks none') = refl
unread_one shelf name Refuses one _ _ (lacks none) (refuses text b on_shelf refused) = absurd (not_none (shelf name) text on_shelf none)
unread_one shelf name Refuses one _ _ (refuses text a on_shelf refused) (lacks none) = absurd (not_none (shelf name) text on_shelf none)
unread_one shelf name Refuses one _ _ (refuses text a on_shelf refused) (refuses text' b on_shelf' refused') =
    one text a b refused (subst (λ (xs : List ℕ). Refuses xs b) (same_some (shelf name) text' text on_shelf' on_shelf) refused')

-- a text that is there, and is not refused, is read
pub unread_read : (shelf : Shelf) (name text : List ℕ) (Refuses : List ℕ → Outcome → Type 0) (answer : Outcome) → shelf name ≡ Some text → ¬ Refuses text answer → IsUnread shelf name Refuses answer → ⊥
unread_read shelf name text Refuses _ on_shelf fine (lacks none) = not_none (shelf name) text on_shelf none
unread_read shelf name text Refuses _ on_shelf fine (refuses other answer on_shelf' refused) =
    fine (subst (λ (xs : List ℕ). Refuses xs answer) (same_some (shelf name) other text on_shelf' on_shelf) refused)

pub unread_posed : (shelf : Shelf) (name : List ℕ) (bound : Option ℤ) (p : Problem) (answer : Outcome) → IsUnread shelf name (RefusesOpb bound) answer → IsDenoted shelf name bound p → ⊥
unread_posed shelf name bound p answer unread denoted =
    unread_read shelf name denoted.text (RefusesOpb bound) answer denoted.on_shelf (denotes_unrefused bound denoted.text p answer denoted.denotes) unread
