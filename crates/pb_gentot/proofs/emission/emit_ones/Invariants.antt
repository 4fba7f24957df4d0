use Rattle.std.proofs.Common.{drop}
use Rattle.std.specs.Prelude.{map}
use Rattle.pb_family.proofs.Emission.{Emitting}
use Rattle.pb_gentot.specs.inner.Nodes.{one_over, ones_over}
use Rattle.pb_gentot.proofs.emission.emit_ones.Given as goal

abbrev pub invariant-loop-i : goal.invariant-loop-i
invariant-loop-i g l =
    let sink = g.S.ClauseSink in
    Emitting (ones_over l.node l.part) (map (one_over l.node l.part) (drop l.i l.part.values.items)) (sink.state l.fn.sink) (sink.state l.sink)
