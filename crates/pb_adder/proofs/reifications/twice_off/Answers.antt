use Rattle.std.proofs.Common.{rules}
use Rattle.pb_adder.proofs.reifications.twice_off.Goals as goal

pub returns : goal.returns
returns c = search rules
