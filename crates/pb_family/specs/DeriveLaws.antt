-- What is said of the steps that derive the clauses of bounded sums (our own).
use Rattle.std.specs.Prelude.{ℕ, ◌+◌, ◌≤◌, ◌^◌, List, All, length}
use Rattle.pb_base.specs.declared.literal.Lit.{Lit}
use Rattle.pb_norm.specs.BoundedSums.{BoundedSum}
use Rattle.pb_steps.specs.declared.step.Step.{Step}
use Rattle.pb_steps.specs.Database.{Database}
use Rattle.pb_steps.specs.Sayable.{IsSayable}
use Rattle.pb_derive.specs.Derivations.{IsReadyFor, IsReadyForBoth, Derives}
use Rattle.pb_derive.specs.Short.{AreShort}
use Rattle.pb_family.specs.Derivations.{AreOriginal, MayStart}
use Rattle.pb_family.specs.Families.{VarsBelow}

-- ---- one sum: the clauses by the first fresh variable, and the steps by that, the id of the sum's constraint and the next id

-- from each database that is ready for the sum, the steps put out the clauses
abbrev pub DeriveSum : BoundedSum → ℕ → (ℕ → List (List Lit)) → (ℕ → ℕ → ℕ → List Step) → Type 0
DeriveSum m fresh clauses steps = (first id : ℕ) (db : Database) → VarsBelow first m.terms → IsReadyFor m first fresh id db → Derives db (steps first id db.next) (clauses first) (first + fresh)

-- their lines are short, wherever they may start, where the terms are at most 2^21
abbrev pub AreShortSteps : BoundedSum → ℕ → ℕ → (ℕ → ℕ → ℕ → List Step) → Type 0
AreShortSteps m fresh count steps = (first id next : ℕ) → AreOriginal first m.terms → MayStart first fresh id next → length m.terms ≤ 2 ^ 21 → AreShort (length m.terms) fresh count (steps first id next)

-- ---- two sums over the same variables: the steps by the first fresh variable, the ids of both constraints and the next id

abbrev pub DeriveBoth : BoundedSum → BoundedSum → ℕ → (ℕ → List (List Lit)) → (ℕ → ℕ → ℕ → ℕ → List Step) → Type 0
DeriveBoth most least fresh clauses steps =
    (first lower upper : ℕ) (db : Database) → VarsBelow first most.terms → IsReadyForBoth most least first fresh lower upper db → Derives db (steps first lower upper db.next) (clauses first) (first + fresh)

-- lines can say them, wherever they may start
abbrev pub AreSayableForBoth : BoundedSum → ℕ → (ℕ → ℕ → ℕ → ℕ → List Step) → Type 0
AreSayableForBoth most fresh steps = (first lower upper next : ℕ) → AreOriginal first most.terms → MayStart first fresh lower next → MayStart first fresh upper next → All IsSayable (steps first lower upper next)

abbrev pub AreShortForBoth : BoundedSum → ℕ → ℕ → (ℕ → ℕ → ℕ → ℕ → List Step) → Type 0
AreShortForBoth most fresh count steps =
    (first lower upper next : ℕ) → AreOriginal first most.terms → MayStart first fresh lower next → MayStart first fresh upper next → length most.terms ≤ 2 ^ 21 → AreShort (length most.terms) fresh count (steps first lower upper next)
