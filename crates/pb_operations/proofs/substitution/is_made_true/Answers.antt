use Rattle.std.proofs.Common.{rules}
use Rattle.pb_operations.proofs.substitution.is_made_true.Goals as goal

pub returns : goal.returns
returns c = search rules
