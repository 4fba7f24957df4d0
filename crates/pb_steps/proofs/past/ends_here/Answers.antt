use Rattle.std.proofs.Common.{rules}
use Rattle.pb_steps.proofs.past.ends_here.Goals as goal

pub returns-in-Some : goal.returns-in-Some
returns-in-Some c = search rules
