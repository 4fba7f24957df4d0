use Rattle.std.proofs.Common.{ap, sym}
use Rattle.pb_suite.specs.inner.Runs.{lrat_refusal}
use Rattle.pb_suite.proofs.commands.refute.lrat_refusal.Goals as goal

pub returns-in-NotRefuted : goal.returns-in-NotRefuted
returns-in-NotRefuted c = sym (ap lrat_refusal c.in-NotRefuted.is)
