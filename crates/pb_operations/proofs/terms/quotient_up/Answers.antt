use Rattle.std.proofs.Common.{rules}
use Rattle.pb_operations.proofs.terms.quotient_up.Goals as goal

pub returns : goal.returns
returns c = search rules
