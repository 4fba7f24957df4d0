use Rattle.std.proofs.Common.{◌≡◌, ◌≤◌, map, take}
use Rattle.pb_norm.specs.Propagation.{room}
use Rattle.pb_unit.specs.inner.Slots.{unit}
use Rattle.pb_unit.proofs.slack.are_two_open.Given as goal

abbrev pub invariant-loop-lit : goal.invariant-loop-lit
invariant-loop-lit l = record {
  sum : l.open ≡ room l.held.lits (map unit (take l.lit-index l.lits));
  few : l.open ≤ 1;
}
