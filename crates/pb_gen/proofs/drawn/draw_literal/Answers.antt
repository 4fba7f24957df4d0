use Rattle.std.proofs.Common.{arith}
use Rattle.std.proofs.lemmas.Grind.{common_steps}
use Rattle.pb_gen.proofs.drawn.draw_literal.Goals as goal

pub returns-clause-literal : goal.returns-clause-literal
returns-clause-literal c = grind (arith, common_steps)
