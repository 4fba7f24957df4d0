use Rattle.std.proofs.Common.{rules, append_assoc}
use Rattle.std.proofs.lemmas.Result.{IfOk-equal}
use Rattle.pb_steps.proofs.write_item.push_op.Goals as goal

pub returns-in-Mul-clause-ok : goal.returns-in-Mul-clause-ok
returns-in-Mul-clause-ok c = search (rules, IfOk-equal, append_assoc)
