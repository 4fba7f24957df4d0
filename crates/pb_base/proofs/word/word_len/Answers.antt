use Rattle.std.proofs.Common.{arith}
use Rattle.std.proofs.lemmas.Grind.{common_steps}
use Rattle.pb_base.proofs.word.word_len.Goals as goal

pub returns-then-is_white : goal.returns-then-is_white
returns-then-is_white c = grind (arith, common_steps)
