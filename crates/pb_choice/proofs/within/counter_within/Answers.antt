use Rattle.std.proofs.Common.{rules}
use Rattle.pb_choice.proofs.within.counter_within.Goals as goal

pub returns-then-fresh-options : goal.returns-then-fresh-options
returns-then-fresh-options c = search rules
