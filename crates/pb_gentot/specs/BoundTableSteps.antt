-- How the clauses of a table of bounds are derived (our own).
use Rattle.std.specs.Prelude.{ℕ, ◌+◌, List, [], ◌++◌, map}
use Rattle.pb_norm.specs.Constraints.{Weighted}
use Rattle.pb_steps.specs.declared.step.Step.{Step}
use Rattle.pb_derive.specs.Phases.{phases}
use Rattle.pb_derive.specs.Justifications.{Justification, by_justification}
use Rattle.pb_tree.specs.Pairs.{Pair}
use Rattle.pb_tree.specs.Scheme.{Scheme, output}
use Rattle.pb_tree.specs.Tree.{Tree, tree_of}
use Rattle.pb_tree.specs.TreeSteps.{reifications, output_ids, justifications}
use Rattle.pb_gentot.specs.BoundTable.{uncut, table_values, neighbours, neighbour_clause}
use Rattle.pb_gentot.specs.GeneralizedSteps.{generalized_pairs}

-- the first constraint of the later value, and the second one of the earlier
abbrev pub neighbour_justification : Scheme → Tree → ℕ → ℕ → Pair → Justification
neighbour_justification s t first id p = record {
  clause = neighbour_clause (output s t first) p;
  ids = output_ids s t id p.right ++ map (λ i. i + 1) (output_ids s t id p.left);
  weakened = [];
}

-- where the first fresh variable's constraints have the ids from the second number on
abbrev pub table_justifications : List Weighted → ℕ → ℕ → List Justification
table_justifications ts first id =
    justifications (uncut ts) generalized_pairs (tree_of ts) first id ++ map (neighbour_justification (uncut ts) (tree_of ts) first id) (neighbours (table_values ts))

-- the first fresh variable, and the next id
abbrev pub table_steps : List Weighted → ℕ → ℕ → List Step
table_steps ts first next = phases next (reifications (uncut ts) (tree_of ts) first) (map by_justification (table_justifications ts first next))
