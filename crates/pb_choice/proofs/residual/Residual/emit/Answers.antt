use Rattle.std.proofs.Common.{rules}
use Rattle.pb_choice.proofs.residual.Residual.emit.Goals as goal

pub returns-in-Empty : goal.returns-in-Empty
returns-in-Empty g c = rw c.in-Empty.is (search rules)
