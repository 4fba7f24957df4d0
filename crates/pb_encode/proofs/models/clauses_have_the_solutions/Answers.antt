use Rattle.pb_encode.proofs.Solutions.{have_solutions}
use Rattle.pb_encode.proofs.models.clauses_have_the_solutions.Goals as goal

pub returns : goal.returns
returns c = have_solutions
