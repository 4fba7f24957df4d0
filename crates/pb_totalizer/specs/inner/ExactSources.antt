-- The justifications of all clauses of an exact sum, as the code has them.
use Rattle.std.specs.Prelude.{ℕ, List, [], ◌∷◌, ◌++◌}
use Rattle.pb_base.specs.declared.literal.Term.{Term}
use Rattle.pb_norm.specs.Constraints.{weights}
use Rattle.pb_derive.specs.Justifications.{Justification}
use Rattle.pb_tree.specs.Tree.{tree_of}
use Rattle.pb_tree.specs.TreeSteps.{justifications_along, root_justification}
use Rattle.pb_totalizer.specs.ExactSteps.{own_justifications, least_justification}
use Rattle.pb_totalizer.specs.Totalizer.{totalizer}
use Rattle.pb_totalizer.specs.declared.node_ids.NodeIds.{NodeIds}
use Rattle.pb_totalizer.specs.declared.node_ids.Source.{Source}
use Rattle.pb_totalizer.specs.inner.LimitSources.{limits_given}
use Rattle.pb_totalizer.specs.inner.Sources.{node_given}

-- of a node, from its parts to its outputs and back, by where the constraints of the parts' outputs stand; their clauses are left out
abbrev pub own_given : ℕ → ℕ → ℕ → ℕ → Source → List Term → Source → List Term → ℕ → List Justification
own_given cap count a b left lefts right rights own = node_given cap a b left lefts right rights own ++ limits_given count a b left lefts right rights own

-- over two parts, as the code has them
abbrev pub own_beside : NodeIds → List Justification
own_beside node = own_given node.cap node.count node.left.count node.right.count node.left.source node.lefts.now node.right.source node.rights.now node.own

-- of all nodes, where the first fresh variable's constraints have the ids from `id` on
abbrev pub nodes_justifications : ℕ → List Term → ℕ → List Justification
nodes_justifications bound ts id = justifications_along (totalizer bound) (own_justifications bound) (tree_of (weights ts)) 0 id

-- and of the root, where the sum's two constraints have the ids `lower` and `upper`
abbrev pub exact_all_justifications : ℕ → List Term → ℕ → ℕ → ℕ → List Justification
exact_all_justifications bound ts id lower upper =
    nodes_justifications bound ts id ++ least_justification bound (tree_of (weights ts)) 0 id lower ∷ root_justification (totalizer bound) (tree_of (weights ts)) 0 id upper ∷ []
