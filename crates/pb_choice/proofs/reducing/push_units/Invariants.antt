use Rattle.std.proofs.Common.{◌≡◌, ◌++◌, take}
use Rattle.std.specs.Prelude.{map}
use Rattle.pb_choice.specs.Reducing.{weaken_unit}
use Rattle.pb_choice.proofs.reducing.push_units.Given as goal

abbrev pub invariant-loop-unit : goal.invariant-loop-unit
invariant-loop-unit l = l.ops.items ≡ l.fn.ops.items ++ map weaken_unit (take l.unit-index l.units)
