-- The justifications of a node's clauses, by the direction in which these lead.
use Rattle.std.specs.Prelude.{ℕ, ◌+◌, List, map}
use Rattle.std.specs.List.{flat_map, range_with_len}
use Rattle.pb_derive.specs.Justifications.{Justification}
use Rattle.pb_totalizer.specs.declared.node_ids.NodeIds.{NodeIds}
use Rattle.pb_totalizer.specs.declared.polarity.Direction.{Direction}
use Rattle.pb_totalizer.specs.declared.polarity.Direction.TheVariants.{Up, Down}
use Rattle.pb_totalizer.specs.inner.LimitSources.{limit_beside}
use Rattle.pb_totalizer.specs.inner.Numbers.{most_by, numbers_by}
use Rattle.pb_totalizer.specs.inner.Sources.{pair_beside}

-- of a number of each part
abbrev pub one_beside : Direction → NodeIds → ℕ → ℕ → Justification
one_beside Up node i j = pair_beside node i j
one_beside Down node i j = limit_beside node i j

-- of one number of the left
abbrev pub row_beside : Direction → NodeIds → ℕ → List Justification
row_beside direction node i = map (one_beside direction node i) (numbers_by direction (most_by direction node.cap node.count) node.right.count i)

-- of each
abbrev pub rows_beside : Direction → NodeIds → List Justification
rows_beside direction node = flat_map (row_beside direction node) (range_with_len 0 (node.left.count + 1))
