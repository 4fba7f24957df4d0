use Rattle.std.proofs.Common.{arith, ◌+◌, ◌^◌}
use Rattle.std.proofs.lemmas.Nat.{mul-le}
use Rattle.pb_totalizer.specs.laws.Counting.{limits_doubled, pairs_bound}
use Rattle.pb_totalizer.proofs.size.clauses_between.Goals as goal

pub overflow_add-result : goal.overflow_add-result
overflow_add-result c =
    let grid = mul-le (c.args.left + 1) (c.args.right + 1) (2 ^ 31 + 1) (2 ^ 31 + 1) (omega arith) (omega arith) in
    let sums = pairs_bound c.args.cap c.args.left c.args.right (omega arith) (omega arith) in
    let limits = limits_doubled c.args.own c.args.right c.args.left c.requires.left_within c.requires.right_within in
    omega (arith, grid, sums, limits, c.pairs-sums.ensures, c.limits_between.ensures)

pub returns-in-Up : goal.returns-in-Up
returns-in-Up c = rw c.in-Up.is c.pairs-sums.ensures

pub returns-in-Both : goal.returns-in-Both
returns-in-Both c = rw c.in-Both.is (omega (arith, c.pairs-sums.ensures, c.limits_between.ensures))
