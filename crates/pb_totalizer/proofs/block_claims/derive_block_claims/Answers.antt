use Rattle.std.proofs.Common.{◌<◌, ◌+◌, ◌-◌, ℕ, refl, subst, arith}
use Rattle.pb_derive.specs.Claims.{claim_steps}
use Rattle.pb_family.specs.StepSinks.{TakesSteps, StopsInSteps}
use Rattle.pb_totalizer.specs.OutputWindows.{first_number, number_count}
use Rattle.pb_totalizer.specs.Totalizer.{partners}
use Rattle.pb_totalizer.specs.inner.Larges.{large_of}
use Rattle.pb_totalizer.specs.inner.Windows.{claim_in, row_in}
use Rattle.pb_totalizer.proofs.ClaimRows.{row_takes, claim_rowing_from, claim_rowing_next, claim_rowing_fault}
use Rattle.pb_totalizer.proofs.block_claims.derive_block_claims.Goals as goal

pub loop-place-init : goal.loop-place-init
loop-place-init g c =
    let b = c.args.block.now in
    claim_rowing_from (λ n. row_in (large_of b.of.now) b.windows b.number (first_number b.number + n)) (number_count (b.of.now.left - 1) b.number) (g.T.StepSink.state c.args.sink.now)

pub returns-in_err-derive_row : goal.returns-in_err-derive_row
returns-in_err-derive_row g c =
    let b = c.args.block.now in
    let w = large_of b.of.now in
    let count : ℕ = number_count (w.left - 1) b.number in
    let k : ℕ = c.loop-place.place in
    let now = g.T.StepSink.state c.loop-place.sink in
    let after = g.T.StepSink.state c.derive_row.new.sink in
    let within : k < count = omega (arith, c.loop-place-test.true, c.loop-place.auto.place-end, c.block_end.ensures, c.first_number-first.ensures) in
    claim_rowing_fault (λ n. row_in w b.windows b.number (first_number b.number + n)) count k (g.T.StepSink.state c.args.sink.now) now within c.loop-place.invariant c.from_residual.result c.in_err-derive_row.field-0.0 after c.from_residual.ensures.1
    (subst (λ (first : ℕ). StopsInSteps (claim_steps now.next (row_in w b.windows b.number (first + k))) now after c.in_err-derive_row.field-0.0) c.first_number-first.ensures c.in_err-derive_row.ensures)

pub loop-place-preserved : goal.loop-place-preserved
loop-place-preserved g c =
    let b = c.args.block.now in
    let w = large_of b.of.now in
    let count : ℕ = number_count (w.left - 1) b.number in
    let k : ℕ = c.loop-place.place in
    let i : ℕ = first_number b.number + k in
    let now = g.T.StepSink.state c.loop-place.sink in
    let after = g.T.StepSink.state c.derive_row.new.sink in
    let within : k < count = omega (arith, c.loop-place-test.true, c.loop-place.auto.place-end, c.block_end.ensures, c.first_number-first.ensures) in
    claim_rowing_next (λ n. row_in w b.windows b.number (first_number b.number + n)) count k (g.T.StepSink.state c.args.sink.now) now within c.loop-place.invariant after (row_takes (claim_in w b.windows b.number i) (λ j. refl) (partners w.cap w.right i))
    (subst (λ (first : ℕ). TakesSteps (claim_steps now.next (row_in w b.windows b.number (first + k))) now after) c.first_number-first.ensures c.in_ok-derive_row.ensures)
