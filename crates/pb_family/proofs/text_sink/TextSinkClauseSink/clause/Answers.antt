use Rattle.std.proofs.Common.{rules}
use Rattle.pb_family.proofs.text_sink.TextSinkClauseSink.clause.Goals as goal

pub returns-in-Err-clause-hands : goal.returns-in-Err-clause-hands
returns-in-Err-clause-hands c = search rules

pub returns-in-Err-clause-failed : goal.returns-in-Err-clause-failed
returns-in-Err-clause-failed c = search rules
