use Rattle.pb_choice.proofs.EqualityDerived.{equalities_derive}
use Rattle.pb_choice.proofs.EqualitySizes.{equalities_brief, equalities_few, equalities_sayable}
use Rattle.pb_choice.proofs.equal_laws.equalities_derive.Goals as goal

pub returns : goal.returns
returns c = record { derive = equalities_derive; few = equalities_few; sayable = equalities_sayable; brief = equalities_brief }
