use Rattle.std.proofs.Common.{arith, suc}
use Rattle.std.proofs.Math.Nat.{mul-le-mul_right}
use Rattle.pb_counter.proofs.halves.first_after.Goals as goal

pub overflow_add-result : goal.overflow_add-result
overflow_add-result c = omega (arith, c.requires.fits, mul-le-mul_right (suc c.args.last) c.requires.some)

pub overflow_cast-result-2 : goal.overflow_cast-result-2
overflow_cast-result-2 c = omega (arith, c.requires.fits, mul-le-mul_right (suc c.args.last) c.requires.some)
