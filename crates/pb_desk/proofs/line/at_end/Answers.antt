use Rattle.std.proofs.Common.{rules}
use Rattle.pb_desk.proofs.line.at_end.Goals as goal

pub returns-else-is_empty : goal.returns-else-is_empty
returns-else-is_empty c = search rules
