-- The justifications of the clauses from outputs to parts, by where the constraints of the parts' outputs stand; their clauses are left out.
use Rattle.std.specs.Prelude.{ℕ, ◌+◌, ◌*◌, List, [], ◌∷◌, ◌++◌, map, nat_lt, if◌then◌else◌}
use Rattle.std.specs.List.{flat_map, range_with_len}
use Rattle.pb_base.specs.declared.literal.Term.{Term}
use Rattle.pb_norm.specs.BoundedSums.{vars_of}
use Rattle.pb_norm.specs.Constraints.{weights}
use Rattle.pb_derive.specs.Justifications.{Justification}
use Rattle.pb_totalizer.specs.Exact.{limits}
use Rattle.pb_totalizer.specs.declared.node_ids.NodeIds.{NodeIds}
use Rattle.pb_totalizer.specs.declared.node_ids.Source.{Source}
use Rattle.pb_totalizer.specs.inner.Sources.{ids_from}

-- the ids of an output's second constraint
abbrev pub seconds_from : Source → ℕ → List ℕ
seconds_from source u = map (λ k. k + 1) (ids_from source u)

-- of the output after an index, which is left out past the last one
abbrev pub ids_after : Source → ℕ → ℕ → List ℕ
ids_after source count i = if nat_lt i count then seconds_from source (i + 1) else []

-- the terms that go: all past the last one
abbrev pub weakened_after : List Term → ℕ → ℕ → List Term
weakened_after ts count i = if nat_lt i count then [] else ts

abbrev pub limit_ids_given : ℕ → ℕ → Source → Source → ℕ → ℕ → ℕ → List ℕ
limit_ids_given a b left right own i j = ids_after left a i ++ (ids_after right b j ++ (own + 2 * (i + j)) ∷ [])

abbrev pub limit_given : ℕ → ℕ → Source → List Term → Source → List Term → ℕ → ℕ → ℕ → Justification
limit_given a b left lefts right rights own i j =
    record { clause = []; ids = limit_ids_given a b left right own i j; weakened = vars_of (weights (weakened_after lefts a i)) ++ vars_of (weights (weakened_after rights b j)) }

-- of one number of the left
abbrev pub limit_row_given : ℕ → ℕ → ℕ → Source → List Term → Source → List Term → ℕ → ℕ → List Justification
limit_row_given count a b left lefts right rights own i = map (limit_given a b left lefts right rights own i) (limits count b i)

-- of a node
abbrev pub limits_given : ℕ → ℕ → ℕ → Source → List Term → Source → List Term → ℕ → List Justification
limits_given count a b left lefts right rights own = flat_map (limit_row_given count a b left lefts right rights own) (range_with_len 0 (a + 1))

-- ---- over two parts, as the code has them

abbrev pub limit_weakened : NodeIds → ℕ → ℕ → List ℕ
limit_weakened node i j = vars_of (weights (weakened_after node.lefts.now node.left.count i)) ++ vars_of (weights (weakened_after node.rights.now node.right.count j))

abbrev pub limit_beside : NodeIds → ℕ → ℕ → Justification
limit_beside node i j = limit_given node.left.count node.right.count node.left.source node.lefts.now node.right.source node.rights.now node.own i j

-- of the root's output, whose sum's constraint from below has the id `lower`
abbrev pub least_given : Source → ℕ → ℕ → Justification
least_given root number lower = record { clause = []; ids = seconds_from root number ++ lower ∷ []; weakened = [] }
