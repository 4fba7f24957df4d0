use Rattle.pb_gentot.proofs.TableModels.{table_names}
use Rattle.pb_gentot.proofs.laws.tables_name_only.Goals as goal

pub returns : goal.returns
returns c = table_names
