use Rattle.pb_gentot.proofs.TableShort.{table_sayable}
use Rattle.pb_gentot.proofs.laws.table_steps_are_sayable.Goals as goal

pub returns : goal.returns
returns c = table_sayable
