use Rattle.std.proofs.Common.{◌-◌, ◌++◌, [], length}
use Rattle.std.specs.Prelude.{map}
use Rattle.std.specs.List.{range_with_len}
use Rattle.pb_family.proofs.Emission.{Emitting}
use Rattle.pb_gentot.specs.inner.Nodes.{part_output}
use Rattle.pb_gentot.proofs.Neighbours.{clause_at, clauses_between}
use Rattle.pb_gentot.proofs.table_clauses.emit_neighbours.Given as goal

abbrev pub invariant-loop-place : goal.invariant-loop-place
invariant-loop-place g l =
    let sink = g.S.ClauseSink in
    let f = part_output l.root in
    Emitting (clauses_between f l.root.values.items) (map (clause_at f l.root.values.items) (range_with_len l.place (length l.root.values.items - 1 - l.place)) ++ []) (sink.state l.fn.sink) (sink.state l.sink)
