use Rattle.pb_suite.proofs.Answered.{answers_are_decoded}
use Rattle.pb_suite.proofs.laws.answers_are_decoded.Goals as goal

pub returns : goal.returns
returns c = answers_are_decoded
