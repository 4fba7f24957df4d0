use Rattle.std.proofs.Common.{length, drop, ◌-◌}
use Rattle.pb_norm.specs.Constraints.{weights}
use Rattle.pb_operations.specs.inner.Sides.{SameFrom}
use Rattle.pb_operations.proofs.implication.place_from.Given as goal

abbrev pub invariant-skipping : goal.invariant-skipping
invariant-skipping l = SameFrom l.var (drop l.from (weights l.terms)) (drop l.place (weights l.terms))

abbrev pub decreases-skipping : goal.decreases-skipping
decreases-skipping l = length l.terms - l.place
