-- The values and clauses of a node over two parts that were handed over.
use Rattle.std.specs.Prelude.{◌≡◌, ◌≤◌, ◌+◌, ℕ, List, All}
use Rattle.pb_base.specs.declared.literal.Lit.{Lit}
use Rattle.pb_base.specs.declared.literal.Term.{Term}
use Rattle.pb_norm.specs.Constraints.{weights}
use Rattle.pb_tree.specs.Scheme.{values, output}
use Rattle.pb_tree.specs.Tree.{tree_of}
use Rattle.pb_gentot.specs.Generalized.{ascending, generalized, sums, value_clauses}
use Rattle.pb_gentot.specs.declared.outputs.Outputs.TheVariants.{Fresh}
use Rattle.pb_gentot.specs.declared.merge.Emitted.{Emitted}
use Rattle.pb_gentot.specs.inner.Nodes.{part_output}
use Rattle.pb_gentot.specs.inner.Outputs.{output_in}

abbrev pub node_values : ℕ → Emitted → Emitted → List ℕ
node_values cap left right = ascending cap (sums cap left.values.items right.values.items)

-- with fresh variables from a first one on
abbrev pub output_over : ℕ → ℕ → Emitted → Emitted → ℕ → Lit
output_over cap first left right = output_in (Fresh first) (node_values cap left right)

abbrev pub clauses_over_parts : ℕ → ℕ → Emitted → Emitted → List (List Lit)
clauses_over_parts cap first left right =
    value_clauses cap left.values.items right.values.items (part_output left) (part_output right) (output_over cap first left right)

-- what stands over two parts
pub record IsMadeOver (cap first : ℕ) (left right part : Emitted) : Type 0 where
  pub values_are : part.values.items ≡ node_values cap left right
  pub outputs_are : part_output part ≡ output_over cap first left right

-- the values of some terms, and their outputs
pub record IsEmitted (bound : ℕ) (ts : List Term) (first : ℕ) (part : Emitted) : Type 0 where
  pub values_are : part.values.items ≡ values (generalized bound) (tree_of (weights ts))
  pub outputs_are : part_output part ≡ output (generalized bound) (tree_of (weights ts)) first
  pub within : All (λ u. u ≤ bound + 1) part.values.items
