use Rattle.std.proofs.Common.{drop}
use Rattle.std.specs.Prelude.{map, slice_index}
use Rattle.pb_family.proofs.Emission.{Emitting}
use Rattle.pb_gentot.specs.inner.Nodes.{both_over, row_over}
use Rattle.pb_gentot.proofs.emission.emit_row.Given as goal

abbrev pub invariant-loop-j : goal.invariant-loop-j
invariant-loop-j g l =
    let sink = g.S.ClauseSink in
    let u = slice_index l.node.left.now.values.items l.i in
    let clause = both_over l.node u in
    Emitting (row_over l.node u) (map clause (drop l.j l.node.right.now.values.items)) (sink.state l.fn.sink) (sink.state l.sink)
