use Rattle.pb_suite.proofs.Chains.{refutations_are_answered}
use Rattle.pb_suite.proofs.laws.refutations_are_answered.Goals as goal

pub returns : goal.returns
returns c = refutations_are_answered
