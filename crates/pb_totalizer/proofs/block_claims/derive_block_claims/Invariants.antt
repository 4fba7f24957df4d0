use Rattle.std.proofs.Common.{◌+◌, ◌-◌}
use Rattle.pb_totalizer.specs.OutputWindows.{first_number, number_count}
use Rattle.pb_totalizer.specs.inner.Larges.{large_of}
use Rattle.pb_totalizer.specs.inner.Windows.{row_in}
use Rattle.pb_totalizer.proofs.ClaimRows.{ClaimRowing}
use Rattle.pb_totalizer.proofs.block_claims.derive_block_claims.Given as goal

abbrev pub invariant-loop-place : goal.invariant-loop-place
invariant-loop-place g l =
    let b = l.block in
    ClaimRowing (λ n. row_in (large_of b.of.now) b.windows b.number (first_number b.number + n)) (number_count (b.of.now.left - 1) b.number) l.place (g.T.StepSink.state l.fn.sink) (g.T.StepSink.state l.sink)
