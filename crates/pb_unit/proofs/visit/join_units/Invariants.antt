use Rattle.std.proofs.Common.{◌≡◌, drop, map}
use Rattle.pb_unit.specs.inner.Slots.{unit}
use Rattle.pb_unit.specs.Steps.{with_all_needed}
use Rattle.pb_unit.proofs.visit.join_units.Given as goal

abbrev pub invariant-loop-lit : goal.invariant-loop-lit
invariant-loop-lit l = record {
  vars : l.held.vars ≡ l.initial.held.vars;
  rest : with_all_needed l.slack (map unit (drop l.lit-index l.lits)) l.held.lits ≡ with_all_needed l.slack (map unit l.lits) l.initial.held.lits;
}
