use Rattle.std.proofs.Common.{ap, sym}
use Rattle.pb_suite.specs.Statuses.{status_of}
use Rattle.pb_suite.proofs.outcome.Outcome.status.Goals as goal

pub returns-in-ReadFault : goal.returns-in-ReadFault
returns-in-ReadFault c = sym (ap status_of c.in-ReadFault.is)
