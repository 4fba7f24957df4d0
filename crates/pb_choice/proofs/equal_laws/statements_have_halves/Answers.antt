use Rattle.pb_choice.proofs.EqualHalves.{statements_have_halves}
use Rattle.pb_choice.proofs.equal_laws.statements_have_halves.Goals as goal

pub returns : goal.returns
returns c = statements_have_halves
