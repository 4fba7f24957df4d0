use Rattle.pb_gentot.proofs.TableDerives.{table_derives}
use Rattle.pb_gentot.proofs.laws.tables_are_derived.Goals as goal

pub returns : goal.returns
returns c = table_derives
