use Rattle.pb_gentot.proofs.TableValues.{table_values_are, table_values_rise}
use Rattle.pb_gentot.proofs.laws.rows_are_sums.Goals as goal

pub returns : goal.returns
returns c = λ ts table. (table_values_rise ts, table_values_are ts table)
