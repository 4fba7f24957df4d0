use Rattle.std.proofs.Common.{arith}
use Rattle.pb_norm.specs.Constraints.{weights}
use Rattle.pb_operations.proofs.Excesses.{excess-le}
use Rattle.pb_operations.proofs.implication.follows.Goals as goal

pub overflow_add-result : goal.overflow_add-result
overflow_add-result c =
    omega (arith, c.excess-excess.ensures, excess-le c.args.turn (weights c.args.terms.now) (weights c.terms.result.now), c.requires.room, c.degree-2.ensures.linear.degree_fits, c.degree-2.ensures.value)
