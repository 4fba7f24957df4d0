use Rattle.pb_suite.proofs.Optima.{optima_are_answered}
use Rattle.pb_suite.proofs.laws.optima_are_answered.Goals as goal

pub returns : goal.returns
returns c = optima_are_answered
