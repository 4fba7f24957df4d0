use Rattle.std.proofs.Common.{◌+◌}
use Rattle.pb_totalizer.specs.inner.Joints.{joint_row}
use Rattle.pb_totalizer.specs.inner.Sides.{side_count}
use Rattle.pb_totalizer.proofs.ClaimRows.{ClaimRowing}
use Rattle.pb_totalizer.proofs.joint_clauses.derive_claims.Given as goal

abbrev pub invariant-loop-i : goal.invariant-loop-i
invariant-loop-i g l = ClaimRowing (joint_row l.of.node l.of.lefts l.of.rights) (side_count l.of.node.left + 1) l.i (g.T.StepSink.state l.fn.sink) (g.T.StepSink.state l.sink)
