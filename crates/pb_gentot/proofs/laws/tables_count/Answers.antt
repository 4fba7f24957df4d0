use Rattle.pb_gentot.proofs.TableModels.{table_counts}
use Rattle.pb_gentot.proofs.laws.tables_count.Goals as goal

pub returns : goal.returns
returns c = table_counts
