use Rattle.pb_choice.proofs.EqualityEncoded.{equalities_force, joint_equalities_force}
use Rattle.pb_choice.proofs.equal_laws.equalities_force.Goals as goal

pub returns : goal.returns
returns c = record { halves = equalities_force; both = joint_equalities_force }
