-- A sum's diagram with its nodes' children, and which steps derive its clauses.
use Rattle.std.proofs.Common.{◌≡◌, ◌≤◌, ◌<◌, ◌∙◌, ℕ, Bool, true, false, cond, List, [], length, ap, sym, arith}
use Rattle.std.specs.Prelude.{min, ◌&&◌}
use Rattle.std.proofs.lemmas.Bool.{le-leb, lt-leb}
use Rattle.std.proofs.lemmas.List.{length-map}
use Rattle.pb_base.specs.declared.literal.Term.{Term}
use Rattle.pb_norm.specs.Constraints.{weighted, weights}
use Rattle.pb_norm.specs.BoundedSums.{BoundedSum, IsProper, sum_within}
use Rattle.pb_diagram.specs.declared.interval.Interval.{Interval}
use Rattle.pb_diagram.specs.declared.node.Node.{Node}
use Rattle.pb_diagram.specs.Clauses.{diagram_fresh}
use Rattle.pb_diagram.specs.DiagramDerivation.{derivation_steps}
use Rattle.pb_diagram.specs.DiagramSteps.{diagram_steps}
use Rattle.pb_diagram.specs.GuardedSteps.{are_narrow, count_nodes, guarded_by, guarded_steps, is_guarded, nodes_in}
use Rattle.pb_diagram.specs.Levels.{coefs_of, levels_of}
use Rattle.pb_diagram.specs.inner.Parts.{nodes_from}
use Rattle.pb_diagram.specs.laws.DiagramLaws.{linked}
use Rattle.pb_diagram.specs.laws.GuardedClauses.{count-nodes}
use Rattle.pb_diagram.specs.laws.GuardedDerives.{linked-length}
use Rattle.pb_diagram.specs.laws.LevelFacts.{levels_root}
use Rattle.pb_diagram.specs.laws.NodesOver.{AreLevels, levels_stand, next_count, nodes_levels}
use Rattle.pb_diagram.proofs.GuardedLevels.{first_from}

module _ (m : BoundedSum) (proper : IsProper m) where
  abbrev pub all_nodes : List (List Node)
  all_nodes = nodes_in m.terms (levels_of m)

  pub nodes_shape : AreLevels m.terms all_nodes
  nodes_shape = nodes_levels m.terms (levels_of m) (linked m) (levels_stand m.bound [] (coefs_of m.terms))

  pub nodes_root : length (nodes_from all_nodes 0) ≡ 1
  nodes_root =
      omega (
        arith,
        ap (length {A = Node}) (first_from all_nodes),
        next_count m.terms (levels_of m) (linked m),
        ap (length {A = Interval}) (levels_root m.bound m.terms proper.heavy).is,
      )

  pub nodes_count : count_nodes all_nodes ≡ diagram_fresh m
  nodes_count = count-nodes m.terms (levels_of m) (linked-length m.terms (levels_of m) (linked m))

  pub guarded_is : (first own next : ℕ) → is_guarded m ≡ true → guarded_by m.terms all_nodes first own next ≡ derivation_steps m first own next
  guarded_is first own next e = ap (λ (b : Bool). cond b (guarded_steps m first own next) (diagram_steps m first own next)) (sym e)

  pub plain_is : (first own next : ℕ) → is_guarded m ≡ false → diagram_steps m first own next ≡ derivation_steps m first own next
  plain_is first own next e = ap (λ (b : Bool). cond b (guarded_steps m first own next) (diagram_steps m first own next)) (sym e)

-- a sum of few terms, as they are written, has no guards
pub few_is : (ts : List Term) (bound : ℕ) → length ts < 20 → is_guarded (sum_within ts bound) ≡ false
few_is ts bound few =
    ap (λ (b : Bool). b && are_narrow (min 255 (length (weights ts))) (nodes_in (weights ts) (levels_of (sum_within ts bound)))) (lt-leb 20 (length (weights ts)) (omega (arith, length-map ts weighted, few)))

-- how long windows may be on average in a sum of many terms
pub most_is : (ts : List Term) (ls : List (List Node)) (most : ℕ) (bound : ℕ) → 20 ≤ length ts → most ≡ min 255 (length ts) → ls ≡ nodes_in (weights ts) (levels_of (sum_within ts bound))
    → are_narrow most ls ≡ is_guarded (sum_within ts bound)
most_is ts ls most bound many e same =
    (λ x. are_narrow ((e ∙ ap (min 255) (sym (length-map ts weighted))) x) (same x))
    ∙ sym
    (ap (λ (b : Bool). b && are_narrow (min 255 (length (weights ts))) (nodes_in (weights ts) (levels_of (sum_within ts bound)))) (le-leb 20 (length (weights ts)) (omega (arith, length-map ts weighted, many))))
