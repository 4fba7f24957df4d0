use Rattle.pb_gentot.proofs.TableDerives.{table_few}
use Rattle.pb_gentot.proofs.laws.table_steps_are_few.Goals as goal

pub returns : goal.returns
returns c = table_few
