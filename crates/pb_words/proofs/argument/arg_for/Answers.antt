use Rattle.std.proofs.Common.{rules}
use Rattle.pb_words.proofs.argument.arg_for.Goals as goal

pub returns-in-Valued-clause-rule : goal.returns-in-Valued-clause-rule
returns-in-Valued-clause-rule c = search rules
