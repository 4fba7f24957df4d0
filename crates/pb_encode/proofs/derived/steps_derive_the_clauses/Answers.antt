use Rattle.pb_encode.proofs.DerivedProblems.{problem_derived}
use Rattle.pb_encode.proofs.derived.steps_derive_the_clauses.Goals as goal

pub returns : goal.returns
returns c = problem_derived
