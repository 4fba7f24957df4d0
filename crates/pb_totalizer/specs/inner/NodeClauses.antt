-- A node's clauses, over the literals of its outputs and of its parts'.
use Rattle.std.specs.Prelude.{ℕ, ◌+◌, List, map}
use Rattle.std.specs.List.{flat_map, range_with_len}
use Rattle.pb_base.specs.declared.literal.Lit.{Lit}
use Rattle.pb_totalizer.specs.Exact.{limit_clause}
use Rattle.pb_totalizer.specs.Totalizer.{sum_clause}
use Rattle.pb_totalizer.specs.declared.node.Node.{Node}
use Rattle.pb_totalizer.specs.declared.polarity.Direction.{Direction}
use Rattle.pb_totalizer.specs.declared.polarity.Direction.TheVariants.{Up, Down}
use Rattle.pb_totalizer.specs.inner.Numbers.{most_by, numbers_by}
use Rattle.pb_totalizer.specs.inner.Outputs.{output_count, output_at}

-- where i of the left and j of the right are true, i + j are
abbrev pub clause_over : Node → ℕ → ℕ → List Lit
clause_over node i j = sum_clause (output_at node.left) (output_at node.right) (output_at node.own) i j

-- where at most i of the left are true and at most j of the right, no more than i + j are
abbrev pub limit_over : Node → ℕ → ℕ → List Lit
limit_over node i j = limit_clause (output_count node.left) (output_count node.right) (output_at node.left) (output_at node.right) (output_at node.own) i j

-- ---- by the direction in which they lead

abbrev pub one_over : Direction → Node → ℕ → ℕ → List Lit
one_over Up node i j = clause_over node i j
one_over Down node i j = limit_over node i j

-- for one i, the j that go with it
abbrev pub row_over : Direction → Node → ℕ → List (List Lit)
row_over direction node i = map (one_over direction node i) (numbers_by direction (most_by direction node.cap (output_count node.own)) (output_count node.right) i)

-- for each i
abbrev pub rows_over : Direction → Node → List (List Lit)
rows_over direction node = flat_map (row_over direction node) (range_with_len 0 (output_count node.left + 1))
