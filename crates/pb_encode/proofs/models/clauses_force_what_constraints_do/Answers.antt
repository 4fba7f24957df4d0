use Rattle.pb_encode.proofs.ForcedGroups.{problem_forces}
use Rattle.pb_encode.proofs.models.clauses_force_what_constraints_do.Goals as goal

pub returns : goal.returns
returns c = problem_forces
