-- A node's clauses over the values and literals of its parts.
use Rattle.std.specs.Prelude.{ℕ, ◌+◌, List, map, min}
use Rattle.std.specs.List.{flat_map}
use Rattle.pb_base.specs.declared.literal.Lit.{Lit}
use Rattle.pb_gentot.specs.Generalized.{one_clause, both_clause, value_clauses}
use Rattle.pb_gentot.specs.declared.merge.Emitted.{Emitted}
use Rattle.pb_gentot.specs.declared.merge.Merge.{Merge}
use Rattle.pb_gentot.specs.declared.outputs.Outputs.TheVariants.{Fresh}
use Rattle.pb_gentot.specs.inner.Outputs.{output_in}

-- a part's literal of a value
abbrev pub part_output : Emitted → ℕ → Lit
part_output part = output_in part.outputs part.values.items

-- the node's literal of a value
abbrev pub own_output : Merge → ℕ → Lit
own_output node = output_in (Fresh node.first) node.own.now.values.items

-- a value of a part gives one of the node
abbrev pub one_over : Merge → Emitted → ℕ → List Lit
one_over node part = one_clause (part_output part) (own_output node)

-- each of them
abbrev pub ones_over : Merge → Emitted → List (List Lit)
ones_over node part = map (one_over node part) part.values.items

-- the sum of two values, cut
abbrev pub sum_over : Merge → ℕ → ℕ → ℕ
sum_over node u v = min (u + v) node.cap

-- a value of the left and one of the right give their sum
abbrev pub both_over : Merge → ℕ → ℕ → List Lit
both_over node u v = both_clause node.cap (part_output node.left.now) (part_output node.right.now) (own_output node) u v

-- for each of the right
abbrev pub row_over : Merge → ℕ → List (List Lit)
row_over node u = map (both_over node u) node.right.now.values.items

-- for each of the left
abbrev pub pairs_over : Merge → List (List Lit)
pairs_over node = flat_map (row_over node) node.left.now.values.items

abbrev pub clauses_over : Merge → List (List Lit)
clauses_over node = value_clauses node.cap node.left.now.values.items node.right.now.values.items (part_output node.left.now) (part_output node.right.now) (own_output node)
