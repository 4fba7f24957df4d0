use Rattle.pb_gentot.proofs.TableLaws.{table_sound}
use Rattle.pb_gentot.proofs.laws.rows_are_sound.Goals as goal

pub returns : goal.returns
returns c = table_sound
