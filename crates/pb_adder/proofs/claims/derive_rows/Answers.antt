use Rattle.std.proofs.Common.{◌≤◌, ◌+◌, ◌^◌, arith}
use Rattle.pb_family.proofs.Deriving.{deriving_starts}
use Rattle.pb_adder.specs.Comparator.{end_needs}
use Rattle.pb_adder.proofs.RowHanding.{rows_claimed, rows_counted, rows_stopped, rows_taken}
use Rattle.pb_adder.proofs.RowSteps.{rest_all, rest_first}
use Rattle.pb_adder.proofs.claims.derive_rows.Goals as goal

pub loop-end-init : goal.loop-end-init
loop-end-init g c = record {
  steps = deriving_starts _ (g.T.StepSink.state c.args.sink.now);
  next = omega (arith, c.requires.few);
  few = omega (arith, c.requires.few);
  fits = c.requires.fits;
}

pub returns-in_err-derive_row : goal.returns-in_err-derive_row
returns-in_err-derive_row g c =
    rows_stopped c.args.first c.loop-end.bound c.args.id c.in-Some.end.now c.loop-end.rest.now c.in-Some.above.now c.in-Some.ensures.cases.0 c.loop-end.invariant.steps _ c.row_at.ensures
    c.from_residual.result _ (g.T.StepSink.state c.derive_row.new.sink) c.from_residual.ensures.1 c.in_err-derive_row.ensures

pub loop-end-preserved : goal.loop-end-preserved
loop-end-preserved g c =
    let after = g.T.StepSink.state c.derive_row.new.sink in
    let split = c.in-Some.ensures.cases.0 in
    let shorter = c.in-Some.ensures.cases.1 in
    let handed = c.in_ok-derive_row.ensures in
    let count = rows_counted c.args.first c.loop-end.bound c.args.id c.in-Some.end.now c.loop-end.rest.now c.in-Some.above.now split c.loop-end.invariant.steps _ c.row_at.ensures after handed in
    record {
      steps = rows_taken c.args.first c.loop-end.bound c.args.id c.in-Some.end.now c.loop-end.rest.now c.in-Some.above.now split c.loop-end.invariant.steps _ c.row_at.ensures after handed;
      next = omega (arith, c.loop-end.invariant.next, count, shorter);
      few = omega (arith, c.loop-end.invariant.few);
      fits = rest_all (λ e. c.args.first + end_needs e ≤ 2 ^ 31) c.in-Some.end.now c.loop-end.rest.now c.in-Some.above.now split c.loop-end.invariant.fits;
    }

pub derive_row-requires : goal.derive_row-requires
derive_row-requires g c = record { room = omega (arith, c.loop-end.invariant.next, c.in-Some.ensures.cases.1, c.requires.room) }

pub row_at-requires : goal.row_at-requires
row_at-requires g c =
    let split = c.in-Some.ensures.cases.0 in
    record {
      low = c.requires.low;
      few = omega (arith, c.loop-end.invariant.few, c.in-Some.ensures.cases.1);
      end_fits = rest_first (λ e. c.args.first + end_needs e ≤ 2 ^ 31) c.in-Some.end.now c.loop-end.rest.now c.in-Some.above.now split c.loop-end.invariant.fits;
      fits = rest_all (λ e. c.args.first + end_needs e ≤ 2 ^ 31) c.in-Some.end.now c.loop-end.rest.now c.in-Some.above.now split c.loop-end.invariant.fits;
    }

pub loop-end-smaller : goal.loop-end-smaller
loop-end-smaller g c = omega (arith, c.in-Some.ensures.cases.1)

pub returns : goal.returns
returns g c = rows_claimed c.args.first c.loop-end.bound c.args.id c.loop-end.rest.now c.in_default.ensures.cases c.loop-end.invariant.steps
