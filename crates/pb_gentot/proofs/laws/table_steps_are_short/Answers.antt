use Rattle.pb_gentot.proofs.TableShort.{table_lines_short}
use Rattle.pb_gentot.proofs.laws.table_steps_are_short.Goals as goal

pub returns : goal.returns
returns c = table_lines_short
