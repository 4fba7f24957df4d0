use Rattle.std.proofs.Common.{arith}
use Rattle.std.proofs.lemmas.Grind.{common_steps}
use Rattle.pb_model.proofs.naming.push_name.Goals as goal

pub returns-in_ok-extend_from_slice-clause-ok : goal.returns-in_ok-extend_from_slice-clause-ok
returns-in_ok-extend_from_slice-clause-ok c = grind (arith, common_steps)

pub returns-in_ok-extend_from_slice-clause-before : goal.returns-in_ok-extend_from_slice-clause-before
returns-in_ok-extend_from_slice-clause-before c = grind (arith, common_steps)
