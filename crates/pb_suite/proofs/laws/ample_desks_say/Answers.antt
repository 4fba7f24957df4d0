use Rattle.pb_suite.proofs.Chains.{ample_desks_say}
use Rattle.pb_suite.proofs.laws.ample_desks_say.Goals as goal

pub returns : goal.returns
returns c = ample_desks_say
