use Rattle.std.proofs.Common.{◌-◌, ◌++◌, []}
use Rattle.std.specs.Prelude.{map}
use Rattle.std.specs.List.{range_with_len}
use Rattle.pb_family.proofs.Emission.{Emitting}
use Rattle.pb_family.proofs.numbered.emit_all.Given as goal

abbrev pub invariant-loop-number : goal.invariant-loop-number
invariant-loop-number g l =
    let state = g.S.ClauseSink.state in
    let clause = g.C.NumberedClauses.clause l.of in
    let count = g.C.NumberedClauses.clause_count l.of in
    Emitting (map clause (range_with_len 0 count)) (map clause (range_with_len l.number (count - l.number)) ++ []) (state l.fn.sink) (state l.sink)
