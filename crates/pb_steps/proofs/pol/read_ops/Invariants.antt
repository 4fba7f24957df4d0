use Rattle.std.proofs.Common.{◌≡◌, false, length}
use Rattle.pb_steps.specs.inner.Ahead.{ahead_of}
use Rattle.pb_steps.specs.LineSteps.{ops_from}
use Rattle.pb_steps.specs.inner.Reading.{with_items}
use Rattle.pb_steps.proofs.pol.read_ops.Given as goal

abbrev pub invariant-ops : goal.invariant-ops
invariant-ops l = ops_from false l.fn.words ≡ with_items l.ops (ops_from false (ahead_of l.ahead l.words))

abbrev pub decreases-ops : goal.decreases-ops
decreases-ops l = length (ahead_of l.ahead l.words)
