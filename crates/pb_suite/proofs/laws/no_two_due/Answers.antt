use Rattle.pb_suite.proofs.NoTwoDue.{no_two_due}
use Rattle.pb_suite.proofs.laws.no_two_due.Goals as goal

pub returns : goal.returns
returns c = no_two_due
