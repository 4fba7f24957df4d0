use Rattle.pb_gentot.proofs.TableLaws.{table_propagates}
use Rattle.pb_gentot.proofs.laws.rows_propagate.Goals as goal

pub returns : goal.returns
returns c = table_propagates
