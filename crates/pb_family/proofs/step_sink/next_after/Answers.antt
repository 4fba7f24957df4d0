use Rattle.std.proofs.Common.{rules}
use Rattle.pb_family.proofs.step_sink.next_after.Goals as goal

pub returns-in_default : goal.returns-in_default
returns-in_default c = search rules
