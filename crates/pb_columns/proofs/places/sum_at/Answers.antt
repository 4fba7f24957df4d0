use Rattle.std.proofs.Common.{arith, get_or}
use Rattle.pb_columns.specs.declared.sum.PbcnfSum.{PbcnfSum}
use Rattle.pb_columns.proofs.Standing.{no_sum, stands_here}
use Rattle.pb_columns.proofs.places.sum_at.Goals as goal

pub returns-then-left-terms : goal.returns-then-left-terms
returns-then-left-terms c =
    let sums = c.args.sums.now in
    let i = c.loop-at.at in
    let m : PbcnfSum = get_or sums i no_sum in
    let before = c.loop-at.invariant in
    record {
      sum = m;
      stands = stands_here sums i no_sum c.loop-at-test.true;
      from = omega (arith, before);
      to = omega (arith, before, c.if-left-terms.true);
    }
