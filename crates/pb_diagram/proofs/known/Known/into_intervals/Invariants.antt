use Rattle.std.proofs.Common.{◌≡◌}
use Rattle.pb_diagram.specs.inner.Known.{intervals_in}
use Rattle.pb_diagram.proofs.known.Known.into_intervals.Given as goal

abbrev pub invariant-loop-run : goal.invariant-loop-run
invariant-loop-run l = l.intervals.items ≡ intervals_in l.yielded
