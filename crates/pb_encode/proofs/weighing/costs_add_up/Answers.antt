use Rattle.pb_encode.proofs.CostLemmas.{costs_add_up}
use Rattle.pb_encode.proofs.weighing.costs_add_up.Goals as goal

pub returns : goal.returns
returns c = costs_add_up
