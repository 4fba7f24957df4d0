use Rattle.std.proofs.Common.{arith}
use Rattle.std.proofs.lemmas.Grind.{common_steps}
use Rattle.pb_base.proofs.literal_word.read_index.Goals as goal

pub new-requires-clause-high : goal.new-requires-clause-high
new-requires-clause-high c = grind (arith, common_steps)
