use Rattle.std.proofs.Common.{◌-◌, length}
use Rattle.pb_unit.proofs.garbage.next_free.Given as goal

abbrev pub invariant-loop-place : goal.invariant-loop-place
invariant-loop-place l = Unit {0}

abbrev pub decreases-loop-place : goal.decreases-loop-place
decreases-loop-place l = length l.places - l.place
