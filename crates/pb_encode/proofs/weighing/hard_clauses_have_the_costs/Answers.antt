use Rattle.pb_encode.proofs.ModelCosts.{models_have_costs}
use Rattle.pb_encode.proofs.weighing.hard_clauses_have_the_costs.Goals as goal

pub returns : goal.returns
returns c = λ o p within. models_have_costs o p within
