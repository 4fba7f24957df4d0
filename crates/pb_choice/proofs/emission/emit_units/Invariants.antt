use Rattle.std.proofs.Common.{map, drop}
use Rattle.pb_family.proofs.Emission.{Emitting}
use Rattle.pb_choice.specs.Clauses.{unit_clause}
use Rattle.pb_choice.proofs.emission.emit_units.Given as goal

abbrev pub invariant-loop-unit : goal.invariant-loop-unit
invariant-loop-unit g l = Emitting (map unit_clause l.unit-items) (map unit_clause (drop l.unit-index l.unit-items)) (g.S.ClauseSink.state l.initial.sink) (g.S.ClauseSink.state l.sink)
