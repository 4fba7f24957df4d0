use Rattle.std.proofs.Common.{rules}
use Rattle.pb_norm.proofs.reduction.is_heavy.Goals as goal

pub returns : goal.returns
returns c = search rules
