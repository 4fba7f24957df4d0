use Rattle.std.proofs.Common.{drop}
use Rattle.std.specs.List.{flat_map}
use Rattle.pb_family.proofs.Emission.{Emitting}
use Rattle.pb_gentot.specs.inner.Nodes.{row_over, pairs_over}
use Rattle.pb_gentot.proofs.emission.emit_pairs.Given as goal

abbrev pub invariant-loop-i : goal.invariant-loop-i
invariant-loop-i g l =
    let sink = g.S.ClauseSink in
    Emitting (pairs_over l.node) (flat_map (row_over l.node) (drop l.i l.node.left.now.values.items)) (sink.state l.fn.sink) (sink.state l.sink)
