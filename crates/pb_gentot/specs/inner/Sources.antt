-- Where the constraints of a part's outputs stand, and the justifications of a node's clauses by that; their clauses are left out.
use Rattle.std.specs.Prelude.{◌≡◌, ℕ, ◌+◌, ◌*◌, ◌≤◌, All, List, [], ◌∷◌, ◌++◌, min, map, length, slice_index}
use Rattle.std.specs.List.{flat_map, range_with_len}
use Rattle.pb_base.specs.declared.literal.Term.{Term}
use Rattle.pb_norm.specs.BoundedSums.{vars_of}
use Rattle.pb_norm.specs.Constraints.{weights}
use Rattle.pb_derive.specs.Justifications.{Justification}
use Rattle.pb_tree.specs.Places.{place_of}
use Rattle.pb_tree.specs.Scheme.{values}
use Rattle.pb_tree.specs.Tree.{tree_of}
use Rattle.pb_tree.specs.TreeSteps.{justifications, output_ids, tree_justifications}
use Rattle.pb_gentot.specs.Generalized.{generalized}
use Rattle.pb_gentot.specs.GeneralizedSteps.{generalized_pairs}
use Rattle.pb_gentot.specs.declared.node_ids.Handed.{Handed}
use Rattle.pb_gentot.specs.declared.node_ids.NodeIds.{NodeIds}
use Rattle.pb_gentot.specs.inner.Ids.{ids_at}

-- of a value
abbrev pub ids_of : Handed → ℕ → List ℕ
ids_of part u = ids_at part.source (place_of u part.values.items)

-- the values of some terms, and where the constraints of their outputs stand
pub record IsHanded (bound : ℕ) (ts : List Term) (id : ℕ) (part : Handed) : Type 0 where
  pub values_are : part.values.items ≡ values (generalized bound) (tree_of (weights ts))
  pub ids_are : ids_of part ≡ output_ids (generalized bound) (tree_of (weights ts)) id
  pub within : All (λ u. u ≤ bound + 1) part.values.items

-- the second constraint of a node's value
abbrev pub second_of : NodeIds → ℕ → ℕ
second_of node u = node.id + 2 * place_of u node.own.now.values.items + 1

-- ---- justifications of a node's clauses

-- a value of a part, by its place, gives one of the node; the other part's leaves go
abbrev pub one_at : NodeIds → Handed → List Term → ℕ → Justification
one_at node part others place = record {
  clause = [];
  ids = ids_at part.source place ++ second_of node (slice_index part.values.items place) ∷ [];
  weakened = vars_of (weights others);
}

abbrev pub ones_given : NodeIds → Handed → List Term → List Justification
ones_given node part others = map (one_at node part others) (range_with_len 0 (length part.values.items))

-- the sum of two values, by their places, cut
abbrev pub sum_at : NodeIds → ℕ → ℕ → ℕ
sum_at node i j = min (slice_index node.left.now.values.items i + slice_index node.right.now.values.items j) node.cap

-- a value of each part gives their sum
abbrev pub both_at : NodeIds → ℕ → ℕ → Justification
both_at node i j =
    record { clause = []; ids = ids_at node.left.now.source i ++ (ids_at node.right.now.source j ++ second_of node (sum_at node i j) ∷ []); weakened = [] }

-- a value of the left, and each of the right
abbrev pub row_given : NodeIds → ℕ → List Justification
row_given node i = map (both_at node i) (range_with_len 0 (length node.right.now.values.items))

-- for each value of the left
abbrev pub pairs_given : NodeIds → List Justification
pairs_given node = flat_map (row_given node) (range_with_len 0 (length node.left.now.values.items))

-- the leaves of the left, and those of the right
abbrev pub node_given : NodeIds → List Term → List Term → List Justification
node_given node lefts rights = ones_given node node.left.now rights ++ (ones_given node node.right.now lefts ++ pairs_given node)

-- of the root, whose sum's own constraint has the id `own`
abbrev pub root_given : Handed → ℕ → ℕ → Justification
root_given root cap own = record { clause = []; ids = ids_of root cap ++ own ∷ []; weakened = [] }

-- ---- of all nodes, where the first fresh variable's constraints have the ids from `id` on

abbrev pub part_justifications : ℕ → List Term → ℕ → List Justification
part_justifications bound ts id = justifications (generalized bound) generalized_pairs (tree_of (weights ts)) 0 id

-- and of the root
abbrev pub all_justifications : ℕ → List Term → ℕ → ℕ → List Justification
all_justifications bound ts id own = tree_justifications (generalized bound) generalized_pairs (tree_of (weights ts)) 0 id own
