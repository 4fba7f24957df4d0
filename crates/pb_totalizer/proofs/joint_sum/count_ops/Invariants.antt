use Rattle.std.proofs.Common.{◌≡◌}
use Rattle.pb_totalizer.specs.TotalizerSteps.{count_ops}
use Rattle.pb_totalizer.proofs.joint_sum.count_ops.Given as goal

abbrev pub invariant-loop-before : goal.invariant-loop-before
invariant-loop-before l = l.ops.items ≡ count_ops l.fn.row l.before
