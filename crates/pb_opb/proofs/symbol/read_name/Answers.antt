use Rattle.std.proofs.Common.{arith}
use Rattle.std.proofs.lemmas.Grind.{common_steps}
use Rattle.pb_opb.proofs.symbol.read_name.Goals as goal

pub returns-in-Value-eq0 : goal.returns-in-Value-eq0
returns-in-Value-eq0 c = grind (arith, common_steps)

pub returns-in-NotANumber : goal.returns-in-NotANumber
returns-in-NotANumber c = grind (arith, common_steps)

pub returns-in-Value : goal.returns-in-Value
returns-in-Value c = grind (arith, common_steps)

pub returns-in-Value-2 : goal.returns-in-Value-2
returns-in-Value-2 c = grind (arith, common_steps)

pub returns-in-TooWide : goal.returns-in-TooWide
returns-in-TooWide c = grind (arith, common_steps)

pub returns-in_default : goal.returns-in_default
returns-in_default c = grind (arith, common_steps)
