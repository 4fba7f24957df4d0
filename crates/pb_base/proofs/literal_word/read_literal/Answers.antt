use Rattle.std.proofs.Common.{arith}
use Rattle.std.proofs.lemmas.Grind.{common_steps}
use Rattle.pb_base.proofs.literal_word.read_literal.Goals as goal

pub returns-in-126 : goal.returns-in-126
returns-in-126 c = grind (arith, common_steps)
