use Rattle.pb_norm.proofs.Solutions.{are_fronts}
use Rattle.pb_norm.proofs.loading.solutions_are_fronts.Goals as goal

pub returns : goal.returns
returns c = are_fronts
