use Rattle.std.proofs.Common.{append_assoc, rules}
use Rattle.pb_encode.proofs.summary.push_sizes.Goals as goal

pub returns : goal.returns
returns c = search (rules, append_assoc)
