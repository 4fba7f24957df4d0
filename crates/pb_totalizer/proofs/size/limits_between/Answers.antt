use Rattle.std.proofs.Common.{◌+◌, ◌^◌, arith}
use Rattle.std.proofs.lemmas.Nat.{mul-le}
use Rattle.pb_totalizer.specs.laws.Counting.{limits_doubled}
use Rattle.pb_totalizer.proofs.size.limits_between.Goals as goal

pub returns : goal.returns
returns c = rw c.saturating_sub-beyond.ensures (omega (arith, limits_doubled c.args.own c.args.right c.args.left c.requires.left_within c.requires.right_within))

pub overflow_mul-result : goal.overflow_mul-result
overflow_mul-result c = omega (arith, mul-le (c.args.left + 1) (c.args.right + 1) (2 ^ 31 + 1) (2 ^ 31 + 1) (omega arith) (omega arith))

pub overflow_sub-result : goal.overflow_sub-result
overflow_sub-result c = rw c.saturating_sub-beyond.ensures (omega (arith, limits_doubled c.args.own c.args.right c.args.left c.requires.left_within c.requires.right_within))
