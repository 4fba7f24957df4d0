use Rattle.std.proofs.Common.{◌≡◌, ◌++◌, take, map}
use Rattle.pb_norm.specs.Constraints.{terms_of}
use Rattle.pb_unit.specs.inner.Slots.{unit}
use Rattle.pb_unit.proofs.places.push_units.Given as goal

abbrev pub invariant-loop-lit : goal.invariant-loop-lit
invariant-loop-lit l = l.terms.items ≡ l.initial.terms.items ++ terms_of (map unit (take l.lit-index l.lits))
