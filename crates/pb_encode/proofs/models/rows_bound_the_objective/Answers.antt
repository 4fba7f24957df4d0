use Rattle.pb_encode.proofs.BoundRows.{table_tells}
use Rattle.pb_encode.proofs.models.rows_bound_the_objective.Goals as goal

pub returns : goal.returns
returns c = table_tells
