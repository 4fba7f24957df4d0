use Rattle.pb_encode.proofs.CnfTexts.{problem_told}
use Rattle.pb_encode.proofs.derived.cnf_tells_the_clauses.Goals as goal

pub returns : goal.returns
returns c = problem_told
