use Rattle.pb_gentot.proofs.TableModels.{table_extends}
use Rattle.pb_gentot.proofs.laws.tables_extend.Goals as goal

pub returns : goal.returns
returns c = table_extends
