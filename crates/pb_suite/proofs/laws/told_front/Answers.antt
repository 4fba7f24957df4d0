use Rattle.pb_suite.proofs.Cuts.{told_front}
use Rattle.pb_suite.proofs.laws.told_front.Goals as goal

pub returns : goal.returns
returns c = told_front
