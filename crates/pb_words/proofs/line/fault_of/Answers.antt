use Rattle.std.proofs.Common.{rules}
use Rattle.pb_words.proofs.line.fault_of.Goals as goal

pub returns-else-eq-clause-memory : goal.returns-else-eq-clause-memory
returns-else-eq-clause-memory c = search rules
