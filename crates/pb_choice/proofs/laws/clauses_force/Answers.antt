use Rattle.pb_choice.proofs.Forced.{clauses_force}
use Rattle.pb_choice.proofs.laws.clauses_force.Goals as goal

pub returns : goal.returns
returns c = clauses_force
