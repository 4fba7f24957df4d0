-- The laws of the diagram of a bounded sum.
use Rattle.std.proofs.Common.{◌≡◌, ℕ, [], length}
use Rattle.pb_base.specs.Literals.{Assignment, IsModel, AgreeBelow}
use Rattle.pb_norm.specs.BoundedSums.{BoundedSum, StaysWithin, IsProper}
use Rattle.pb_norm.specs.ClausePropagation.{ClausesPropagate}
use Rattle.pb_family.specs.Families.{VarsBelow, NamesOnly}
use Rattle.pb_diagram.specs.Levels.{levels_of}
use Rattle.pb_diagram.specs.Clauses.{diagram_clauses, diagram_fresh, diagram_size}
use Rattle.pb_diagram.specs.inner.Links.{AreLinked, IsRootNode}
use Rattle.pb_diagram.specs.laws.LevelFacts.{levels_linked, levels_root}
use Rattle.pb_diagram.specs.laws.LinkedExtends.{linked_extends}
use Rattle.pb_diagram.specs.laws.LinkedCounts.{linked_counts, linked_names}
use Rattle.pb_diagram.specs.laws.LinkedPropagates.{linked_sound, linked_propagates}

pub linked : (m : BoundedSum) → AreLinked m.terms (levels_of m)
linked m = levels_linked m.bound [] m.terms

rooted : (m : BoundedSum) → IsProper m → IsRootNode m.bound (levels_of m)
rooted m proper = levels_root m.bound m.terms proper.heavy

pub diagram_sound : (m : BoundedSum) → IsProper m → (first : ℕ) (a : Assignment) → IsModel a (diagram_clauses m first) → StaysWithin a m
diagram_sound m proper first a model = linked_sound m (levels_of m) (linked m) (rooted m proper) first a model

pub diagram_extends : (m : BoundedSum) → IsProper m → (first : ℕ) → VarsBelow first m.terms → (a : Assignment) → StaysWithin a m
    → (b : Assignment) × AgreeBelow first a b × IsModel b (diagram_clauses m first)
diagram_extends m proper first below a holds = linked_extends m.terms m.bound (levels_of m) (linked m) (rooted m proper) first below a holds

pub diagram_counts : (m : BoundedSum) (first : ℕ) → length (diagram_clauses m first) ≡ diagram_size m
diagram_counts m first = linked_counts m.terms (levels_of m) (linked m) first

pub diagram_names : (m : BoundedSum) → IsProper m → (first : ℕ) → NamesOnly m.terms first (diagram_fresh m) (diagram_clauses m first)
diagram_names m proper first = linked_names m.terms m.bound (levels_of m) (linked m) (rooted m proper) first

pub diagram_propagates : (m : BoundedSum) → IsProper m → (first : ℕ) → ClausesPropagate (diagram_clauses m first) (λ a. StaysWithin a m)
diagram_propagates m proper first = linked_propagates m (levels_of m) (linked m) (rooted m proper) first proper.distinct
