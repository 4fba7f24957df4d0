use Rattle.std.proofs.Common.{rules}
use Rattle.pb_steps.proofs.word.variable_in.Goals as goal

pub returns : goal.returns
returns c = search rules
