use Rattle.std.proofs.Common.{◌+◌, refl, arith}
use Rattle.pb_totalizer.specs.Totalizer.{partners}
use Rattle.pb_totalizer.specs.inner.Joints.{joint_claim, joint_row}
use Rattle.pb_totalizer.specs.inner.Sides.{side_count}
use Rattle.pb_totalizer.proofs.ClaimRows.{row_takes, claim_rowing_from, claim_rowing_next, claim_rowing_fault, claim_rowing_ends, claim_rowing_room}
use Rattle.pb_totalizer.proofs.joint_clauses.derive_claims.Goals as goal

pub loop-i-init : goal.loop-i-init
loop-i-init g c =
    let of = c.args.of.now in
    claim_rowing_from (joint_row of.node of.lefts of.rights) (side_count of.node.left + 1) (g.T.StepSink.state c.args.sink.now)

pub derive_claim_row-requires-clause-room : goal.derive_claim_row-requires-clause-room
derive_claim_row-requires-clause-room g c =
    let of = c.args.of.now in
    omega (
      arith,
      claim_rowing_room (joint_row of.node of.lefts of.rights) (side_count of.node.left + 1) c.loop-i.i (g.T.StepSink.state c.args.sink.now) (g.T.StepSink.state c.loop-i.sink) (omega arith) c.loop-i.invariant,
      c.requires,
    )

pub returns-in_err-derive_claim_row : goal.returns-in_err-derive_claim_row
returns-in_err-derive_claim_row g c =
    let of = c.args.of.now in
    claim_rowing_fault (joint_row of.node of.lefts of.rights) (side_count of.node.left + 1) c.loop-i.i (g.T.StepSink.state c.args.sink.now) (g.T.StepSink.state c.loop-i.sink) (omega arith) c.loop-i.invariant c.from_residual.result _
    (g.T.StepSink.state c.derive_claim_row.new.sink) c.from_residual.ensures.1 c.in_err-derive_claim_row.ensures

pub loop-i-preserved : goal.loop-i-preserved
loop-i-preserved g c =
    let of = c.args.of.now in
    claim_rowing_next (joint_row of.node of.lefts of.rights) (side_count of.node.left + 1) c.loop-i.i (g.T.StepSink.state c.args.sink.now) (g.T.StepSink.state c.loop-i.sink) (omega arith) c.loop-i.invariant
    (g.T.StepSink.state c.derive_claim_row.new.sink) (row_takes (joint_claim of.node of.lefts of.rights c.loop-i.i) (λ j. refl) (partners of.node.cap (side_count of.node.right) c.loop-i.i)) c.in_ok-derive_claim_row.ensures

pub returns : goal.returns
returns g c =
    let of = c.args.of.now in
    claim_rowing_ends (joint_row of.node of.lefts of.rights) (side_count of.node.left + 1) c.loop-i.i (g.T.StepSink.state c.args.sink.now) (g.T.StepSink.state c.loop-i.sink) (omega arith) c.loop-i.invariant
