use Rattle.std.proofs.Common.{◌∙◌, ℕ, ap, arith}
use Rattle.pb_family.proofs.Deriving.{steps_same}
use Rattle.pb_totalizer.specs.Totalizer.{partners}
use Rattle.pb_totalizer.specs.inner.Joints.{joint_claim}
use Rattle.pb_totalizer.specs.inner.Sides.{side_count}
use Rattle.pb_totalizer.proofs.ClaimRows.{row_pieces, row_length}
use Rattle.pb_totalizer.proofs.joint_clauses.derive_claim_row.Goals as goal

pub derive_pieces-requires : goal.derive_pieces-requires
derive_pieces-requires g c =
    let of = c.args.of.now in
    let count = row_length (joint_claim of.node of.lefts of.rights c.args.i) (partners of.node.cap (side_count of.node.right) c.args.i) c.numbers-low.result.0 c.numbers-low.result.1 (c.numbers-low.ensures.row ∙ ap (λ (b : ℕ). partners of.node.cap b c.args.i) c.count-2.ensures) in
    record { few = omega (arith, c.requires.room, count) }

pub returns : goal.returns
returns g c =
    let of = c.args.of.now in
    let old = g.T.StepSink.state c.args.sink.now in
    steps_same c.derive_pieces.result _ _ old (g.T.StepSink.state c.derive_pieces.new.sink)
    (row_pieces (joint_claim of.node of.lefts of.rights c.args.i) (partners of.node.cap (side_count of.node.right) c.args.i) c.numbers-low.result.0 c.numbers-low.result.1 (c.numbers-low.ensures.row ∙ ap (λ (b : ℕ). partners of.node.cap b c.args.i) c.count-2.ensures) old.next) c.derive_pieces.ensures
