use Rattle.std.proofs.Common.{◌-◌, ◌+◌, ◌++◌, []}
use Rattle.std.specs.List.{flat_map, range_with_len}
use Rattle.pb_family.proofs.Emission.{Emitting}
use Rattle.pb_totalizer.specs.inner.NodeClauses.{row_over, rows_over}
use Rattle.pb_totalizer.specs.inner.Outputs.{output_count}
use Rattle.pb_totalizer.proofs.emission.emit_rows.Given as goal

-- the rows of the numbers that are left are left
abbrev pub invariant-loop-i : goal.invariant-loop-i
invariant-loop-i g l =
    let sink = g.S.ClauseSink in
    Emitting (rows_over l.direction l.node) (flat_map (row_over l.direction l.node) (range_with_len l.i (output_count l.node.left + 1 - l.i)) ++ []) (sink.state l.fn.sink) (sink.state l.sink)
