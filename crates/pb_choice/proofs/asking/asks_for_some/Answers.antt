use Rattle.std.proofs.Common.{rules}
use Rattle.pb_choice.proofs.asking.asks_for_some.Goals as goal

pub returns-then-number-ge1 : goal.returns-then-number-ge1
returns-then-number-ge1 c = search rules
