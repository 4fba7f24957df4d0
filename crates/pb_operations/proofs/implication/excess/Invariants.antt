use Rattle.std.proofs.Common.{map}
use Rattle.pb_norm.specs.Constraints.{weights}
use Rattle.pb_operations.specs.inner.Sides.{turned}
use Rattle.pb_operations.proofs.Excesses.{IsExcessSoFar}
use Rattle.pb_operations.proofs.implication.excess.Given as goal

abbrev pub invariant-loop-term : goal.invariant-loop-term
invariant-loop-term l = IsExcessSoFar (map (turned l.turn) (weights l.terms)) (weights l.others) l.term-index l.sum l.place
