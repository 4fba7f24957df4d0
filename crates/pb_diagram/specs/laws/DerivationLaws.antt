-- The laws of a diagram's derivation, whichever it is.
use Rattle.std.proofs.Common.{◌≡◌, ◌≤◌, ◌<◌, ◌+◌, ◌*◌, ◌^◌, ℕ, true, List, length, arith}
use Rattle.std.specs.Prelude.{All}
use Rattle.std.proofs.lemmas.Bool.{cond_both}
use Rattle.std.proofs.lemmas.List.Elements.{All-weaker}
use Rattle.pb_norm.specs.BoundedSums.{BoundedSum, IsProper}
use Rattle.pb_norm.specs.Constraints.{weight}
use Rattle.pb_steps.specs.declared.step.Step.{Step}
use Rattle.pb_steps.specs.Database.{Database}
use Rattle.pb_steps.specs.Sayable.{IsSayable}
use Rattle.pb_derive.specs.Derivations.{IsReadyFor, Derives}
use Rattle.pb_derive.specs.Short.{AreShort}
use Rattle.pb_family.specs.Derivations.{AreOriginal, MayStart}
use Rattle.pb_family.specs.Families.{VarsBelow}
use Rattle.pb_diagram.specs.Clauses.{diagram_clauses, diagram_fresh, diagram_size}
use Rattle.pb_diagram.specs.DiagramDerivation.{derivation_steps}
use Rattle.pb_diagram.specs.DiagramSteps.{diagram_steps}
use Rattle.pb_diagram.specs.declared.node.Node.{Node}
use Rattle.pb_diagram.specs.Guards.{windows}
use Rattle.pb_diagram.specs.GuardedSteps.{nodes_in, guarded_steps, is_guarded}
use Rattle.pb_diagram.specs.Levels.{levels_of}
use Rattle.pb_diagram.specs.laws.DiagramDerives.{diagram_derives, diagram_lines}
use Rattle.pb_diagram.specs.laws.DiagramShort.{diagram_sayable, diagram_short}
use Rattle.pb_diagram.specs.laws.GuardedCounts.{guarded_lines}
use Rattle.pb_diagram.specs.laws.GuardedDerives.{guarded_derives}
use Rattle.pb_diagram.specs.laws.GuardedShort.{narrow_of, guarded_sayable, guarded_short}

module _ (m : BoundedSum) (proper : IsProper m) where
  -- what holds of both holds of the one that is written
  either : (Q : List Step → Type 0) (first own next : ℕ) → (is_guarded m ≡ true → Q (guarded_steps m first own next)) → Q (diagram_steps m first own next) → Q (derivation_steps m first own next)
  either Q first own next one other = cond_both (is_guarded m) (guarded_steps m first own next) (diagram_steps m first own next) Q one (λ _. other)

  pub derivation_derives : weight m.terms < 2 ^ 100 → (first : ℕ) → VarsBelow first m.terms → (own : ℕ) (db : Database) → IsReadyFor m first (diagram_fresh m) own db → Derives db (derivation_steps m first own db.next) (diagram_clauses m first) (first + diagram_fresh m)
  derivation_derives light first below own db ready =
      either (λ ss. Derives db ss (diagram_clauses m first) (first + diagram_fresh m)) first own db.next
      (λ guarded. guarded_derives m proper light
      (All-weaker (λ (ns : List Node). (length ns < 2 ^ 14) × (windows ns ≤ 255 * length ns)) (λ (ns : List Node). length ns < 2 ^ 20) (λ ns h. omega (arith, h.0)) (nodes_in m.terms (levels_of m)) (narrow_of m guarded))
      first below own db ready)
      (diagram_derives m proper light first below own db ready)

  pub derivation_lines : (first own next : ℕ) → length (derivation_steps m first own next) ≤ 8 * (diagram_fresh m + diagram_size m)
  derivation_lines first own next = either (λ ss. length ss ≤ 8 * (diagram_fresh m + diagram_size m)) first own next (λ guarded. guarded_lines m proper first own next) (diagram_lines m first own next)

  pub derivation_sayable : weight m.terms < 2 ^ 100 → (first own next : ℕ) → AreOriginal first m.terms → MayStart first (diagram_fresh m) own next → All IsSayable (derivation_steps m first own next)
  derivation_sayable light first own next original start =
      either (All IsSayable) first own next (λ guarded. guarded_sayable m proper light guarded first own next original start) (diagram_sayable m proper light first own next original start)

  pub derivation_short : weight m.terms < 2 ^ 100 → (first own next : ℕ) → AreOriginal first m.terms → MayStart first (diagram_fresh m) own next → length m.terms ≤ 2 ^ 21 → AreShort (length m.terms) (diagram_fresh m) (diagram_size m) (derivation_steps m first own next)
  derivation_short light first own next original start few =
      either (AreShort (length m.terms) (diagram_fresh m) (diagram_size m)) first own next (λ guarded. guarded_short m proper light guarded first own next original start few) (diagram_short m proper light first own next original start few)
