use Rattle.std.proofs.Common.{arith}
use Rattle.pb_family.proofs.Deriving.{steps_same}
use Rattle.pb_totalizer.specs.Totalizer.{partners}
use Rattle.pb_totalizer.specs.inner.Larges.{large_of}
use Rattle.pb_totalizer.specs.inner.Windows.{claim_in}
use Rattle.pb_totalizer.proofs.ClaimRows.{row_pieces, row_length}
use Rattle.pb_totalizer.proofs.block_claims.derive_row.Goals as goal

pub derive_pieces-requires : goal.derive_pieces-requires
derive_pieces-requires g c =
    let b = c.args.block.now in
    let n = b.of.now in
    let count = row_length (claim_in (large_of n) b.windows b.number c.args.i) (partners n.cap n.right c.args.i) c.numbers-low.result.0 c.numbers-low.result.1 c.numbers-low.ensures.row in
    record { few = omega (arith, c.requires.room, count) }

pub returns : goal.returns
returns g c =
    let b = c.args.block.now in
    let n = b.of.now in
    let old = g.T.StepSink.state c.args.sink.now in
    steps_same c.derive_pieces.result _ _ old (g.T.StepSink.state c.derive_pieces.new.sink)
    (row_pieces (claim_in (large_of n) b.windows b.number c.args.i) (partners n.cap n.right c.args.i) c.numbers-low.result.0 c.numbers-low.result.1 c.numbers-low.ensures.row old.next) c.derive_pieces.ensures
