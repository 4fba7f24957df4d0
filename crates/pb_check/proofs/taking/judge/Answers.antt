use Rattle.std.proofs.Common.{subst}
use Rattle.std.specs.Option.{option_copied}
use Rattle.pb_rules.specs.Faults.{IsFault}
use Rattle.pb_check.proofs.taking.judge.Goals as goal

pub returns-in-Denied : goal.returns-in-Denied
returns-in-Denied c = subst (IsFault c.args.db.now c.args.step.now (option_copied c.args.next)) c.in-Denied.is c.in-Err.ensures.fault
