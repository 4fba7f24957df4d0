use Rattle.pb_suite.proofs.Chains.{models_are_decoded}
use Rattle.pb_suite.proofs.laws.models_are_decoded.Goals as goal

pub returns : goal.returns
returns c = models_are_decoded
