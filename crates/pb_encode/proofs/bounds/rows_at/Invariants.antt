use Rattle.std.proofs.Common.{◌≡◌, take}
use Rattle.pb_gentot.specs.BoundTable.{table_rows}
use Rattle.pb_encode.proofs.BoundTexts.{risen}
use Rattle.pb_encode.proofs.bounds.rows_at.Given as goal

abbrev pub invariant-loop-place : goal.invariant-loop-place
invariant-loop-place l = l.rows.items ≡ risen l.offset (take l.place (table_rows l.table l.first))
