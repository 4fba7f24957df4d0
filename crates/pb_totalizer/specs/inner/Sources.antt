-- Where the constraints of a part's outputs stand, and the justifications of a node's clauses by that; their clauses are left out.
use Rattle.std.specs.Prelude.{◌≡◌, ℕ, zero, suc, ◌+◌, ◌-◌, ◌*◌, List, [], ◌∷◌, ◌++◌, map}
use Rattle.std.specs.List.{flat_map, range_with_len}
use Rattle.pb_base.specs.declared.literal.Term.{Term}
use Rattle.pb_norm.specs.BoundedSums.{vars_of}
use Rattle.pb_norm.specs.Constraints.{weights}
use Rattle.pb_derive.specs.Justifications.{Justification}
use Rattle.pb_tree.specs.Tree.{tree_of}
use Rattle.pb_tree.specs.TreeSteps.{output_ids}
use Rattle.pb_totalizer.specs.Exact.{outputs_of}
use Rattle.pb_totalizer.specs.Totalizer.{partners, totalizer}
use Rattle.pb_totalizer.specs.declared.node_ids.Handed.{Handed}
use Rattle.pb_totalizer.specs.declared.node_ids.NodeIds.{NodeIds}
use Rattle.pb_totalizer.specs.declared.node_ids.Source.{Source}
use Rattle.pb_totalizer.specs.declared.node_ids.Source.TheVariants.{Leaf, Fresh}

-- a leaf has no constraints; the ids of an output's first one go up by two
abbrev pub ids_from : Source → ℕ → List ℕ
ids_from Leaf u = []
ids_from (Fresh row) u = (row.first + 2 * (u - 1)) ∷ []

-- where the constraints of the outputs of some terms stand, and how many there are
pub record StandAt (bound : ℕ) (ts : List Term) (id : ℕ) (part : Handed) : Type 0 where
  pub ids : ids_from part.source ≡ output_ids (totalizer bound) (tree_of (weights ts)) id
  pub count : part.count ≡ outputs_of bound (tree_of (weights ts))

abbrev pub some_ids : Source → ℕ → List ℕ
some_ids source zero = []
some_ids source (suc u) = ids_from source (suc u)

-- the terms that go: all where the number is 0
abbrev pub weakened_at : List Term → ℕ → List Term
weakened_at ts zero = ts
weakened_at ts (suc u) = []

abbrev pub ids_given : Source → Source → ℕ → ℕ → ℕ → List ℕ
ids_given left right own i j = some_ids left i ++ (some_ids right j ++ (own + 2 * (i + j - 1) + 1) ∷ [])

abbrev pub pair_given : Source → List Term → Source → List Term → ℕ → ℕ → ℕ → Justification
pair_given left lefts right rights own i j =
    record { clause = []; ids = ids_given left right own i j; weakened = vars_of (weights (weakened_at lefts i)) ++ vars_of (weights (weakened_at rights j)) }

-- of one number of the left
abbrev pub row_given : ℕ → ℕ → Source → List Term → Source → List Term → ℕ → ℕ → List Justification
row_given cap b left lefts right rights own i = map (pair_given left lefts right rights own i) (partners cap b i)

-- of a node
abbrev pub node_given : ℕ → ℕ → ℕ → Source → List Term → Source → List Term → ℕ → List Justification
node_given cap a b left lefts right rights own = flat_map (row_given cap b left lefts right rights own) (range_with_len 0 (a + 1))

-- ---- over two parts, as the code has them

abbrev pub pair_weakened : NodeIds → ℕ → ℕ → List ℕ
pair_weakened node i j = vars_of (weights (weakened_at node.lefts.now i)) ++ vars_of (weights (weakened_at node.rights.now j))

abbrev pub pair_beside : NodeIds → ℕ → ℕ → Justification
pair_beside node i j = pair_given node.left.source node.lefts.now node.right.source node.rights.now node.own i j

-- of the root, whose sum's own constraint has the id `own`
abbrev pub root_given : Source → ℕ → ℕ → Justification
root_given root number own = record { clause = []; ids = some_ids root number ++ own ∷ []; weakened = [] }
