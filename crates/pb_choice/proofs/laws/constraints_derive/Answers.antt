use Rattle.pb_choice.proofs.ConstraintDerived.{constraints_derive}
use Rattle.pb_choice.proofs.ConstraintSizes.{constraints_brief, constraints_few, constraints_sayable}
use Rattle.pb_choice.proofs.laws.constraints_derive.Goals as goal

pub returns : goal.returns
returns c = record { derive = constraints_derive; few = constraints_few; sayable = constraints_sayable; brief = constraints_brief }
