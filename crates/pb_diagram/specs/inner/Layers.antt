-- What is handed over of a diagram and of its levels, in the words of the types that have them.
use Rattle.std.specs.Prelude.{ℕ, List}
use Rattle.pb_base.specs.declared.literal.Lit.{Lit}
use Rattle.pb_norm.specs.Constraints.{weighted, weights}
use Rattle.pb_norm.specs.BoundedSums.{BoundedSum, sum_within}
use Rattle.pb_derive.specs.Justifications.{Justification}
use Rattle.pb_derive.specs.Reifications.{Reification}
use Rattle.pb_diagram.specs.declared.interval.Interval.{Interval}
use Rattle.pb_diagram.specs.declared.layer.Layer.{Layer}
use Rattle.pb_diagram.specs.declared.shape.Shape.{Shape}
use Rattle.pb_diagram.specs.Clauses.{level_clauses}
use Rattle.pb_diagram.specs.DiagramSteps.{node_reifications}
use Rattle.pb_diagram.specs.inner.NodesAt.{false_at, level_at, true_at}

-- ---- a level, its nodes from one number on, and those of the next level from another on

abbrev pub layer_clauses : Layer → ℕ → ℕ → List (List Lit)
layer_clauses layer after first = level_clauses (weighted layer.term.now) layer.whole after layer.next.now first layer.nodes.now

abbrev pub false_in : Layer → ℕ → ℕ → ℕ → Interval → List Justification
false_in layer after id place g = false_at (weighted layer.term.now) layer.whole layer.next.now after id place g

abbrev pub true_in : Layer → ℕ → ℕ → ℕ → Interval → List Justification
true_in layer after id place g = true_at (weighted layer.term.now) (weights layer.rest.now) layer.next.now after id place g

abbrev pub layer_justifications : Layer → ℕ → ℕ → List Justification
layer_justifications layer after id = level_at (weighted layer.term.now) (weights layer.rest.now) layer.next.now after id layer.nodes.now

-- ---- a diagram

abbrev pub shape_sum : Shape → BoundedSum
shape_sum shape = sum_within shape.terms.now shape.bound

abbrev pub shape_reifications : Shape → ℕ → List Reification
shape_reifications shape first = node_reifications first (weights shape.terms.now) shape.levels.now
