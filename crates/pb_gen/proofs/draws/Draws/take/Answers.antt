use Rattle.std.proofs.Common.{arith}
use Rattle.std.proofs.lemmas.Grind.{common_steps}
use Rattle.pb_gen.proofs.draws.Draws.take.Goals as goal

pub returns-clause-drawn : goal.returns-clause-drawn
returns-clause-drawn c = grind (arith, common_steps)

pub returns-clause-state : goal.returns-clause-state
returns-clause-state c = grind (arith, common_steps)
