-- What the code keeps of a table of bounds, and the table along a totalizer with any cut, as the code has its parts.
use Rattle.std.specs.Prelude.{◌≡◌, ◌<◌, ◌+◌, ◌*◌, ◌-◌, ◌^◌, ℕ, List, [], ◌∷◌, ◌++◌, map}
use Rattle.std.specs.List.{range_with_len}
use Rattle.pb_base.specs.declared.literal.Lit.{Lit}
use Rattle.pb_base.specs.declared.literal.Term.{Term}
use Rattle.pb_norm.specs.Constraints.{weight, weights}
use Rattle.pb_steps.specs.declared.step.Step.{Step}
use Rattle.pb_derive.specs.Phases.{phases}
use Rattle.pb_derive.specs.Justifications.{Justification, by_justification}
use Rattle.pb_tree.specs.Scheme.{values, output, clauses_of}
use Rattle.pb_tree.specs.Tree.{Tree, tree_of}
use Rattle.pb_tree.specs.TreeSteps.{reifications, justifications}
use Rattle.pb_gentot.specs.BoundTable.{IsTable, table_values, table_fresh, table_size, neighbours, neighbour_clause}
use Rattle.pb_gentot.specs.BoundTableSteps.{neighbour_justification}
use Rattle.pb_gentot.specs.Generalized.{generalized}
use Rattle.pb_gentot.specs.GeneralizedSteps.{generalized_pairs}
use Rattle.pb_gentot.specs.declared.node_ids.Source.{Source}
use Rattle.pb_gentot.specs.declared.node_ids.Source.TheVariants.{Leaf, Fresh}

-- the terms and their weight, and the values and numbers of the table
pub record IsKeptTable (ts : List Term) (whole : ℕ) (us : List ℕ) (fresh clauses : ℕ) : Type 0 where
  pub table : IsTable (weights ts)
  pub light : weight (weights ts) < 2 ^ 100
  pub weight_is : whole ≡ weight (weights ts)
  pub values_are : us ≡ table_values (weights ts)
  pub fresh_is : fresh ≡ table_fresh (weights ts)
  pub clauses_is : clauses ≡ table_size (weights ts)
  pub modest : clauses < 2 ^ 60

-- ---- with any cut

abbrev pub clauses_by : ℕ → List Term → ℕ → List (List Lit)
clauses_by bound ts first =
    clauses_of (generalized bound) (tree_of (weights ts)) first
    ++ map (neighbour_clause (output (generalized bound) (tree_of (weights ts)) first)) (neighbours (values (generalized bound) (tree_of (weights ts))))

abbrev pub neighbour_justifications : ℕ → Tree → ℕ → ℕ → List Justification
neighbour_justifications bound t first id = map (neighbour_justification (generalized bound) t first id) (neighbours (values (generalized bound) t))

abbrev pub justifications_by : ℕ → List Term → ℕ → ℕ → List Justification
justifications_by bound ts first id = justifications (generalized bound) generalized_pairs (tree_of (weights ts)) first id ++ neighbour_justifications bound (tree_of (weights ts)) first id

abbrev pub steps_by : ℕ → List Term → ℕ → ℕ → List Step
steps_by bound ts first next = phases next (reifications (generalized bound) (tree_of (weights ts)) first) (map by_justification (justifications_by bound ts first next))

-- ---- justifications of the clauses between neighbours; their clauses are left out

-- the first constraint of the output behind a place, and the second one of the output there
abbrev pub rise_at : ℕ → ℕ → Justification
rise_at id k = record { clause = []; ids = (id + 2 * k + 2) ∷ (id + 2 * k + 1) ∷ []; weakened = [] }

-- of n outputs
abbrev pub rises_of : Source → ℕ → List Justification
rises_of Leaf n = []
rises_of (Fresh id) n = map (rise_at id) (range_with_len 0 (n - 1))
