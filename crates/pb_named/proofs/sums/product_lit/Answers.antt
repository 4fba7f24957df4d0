use Rattle.std.proofs.Common.{arith}
use Rattle.std.proofs.lemmas.Grind.{common_steps}
use Rattle.pb_named.proofs.sums.product_lit.Goals as goal

pub returns-clause-lit : goal.returns-clause-lit
returns-clause-lit c = grind (arith, common_steps)
