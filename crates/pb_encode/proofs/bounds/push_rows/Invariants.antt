use Rattle.std.proofs.Common.{◌≡◌, ◌++◌, take}
use Rattle.pb_encode.specs.BoundLines.{bounds_text}
use Rattle.pb_encode.proofs.bounds.push_rows.Given as goal

abbrev pub invariant-loop-row : goal.invariant-loop-row
invariant-loop-row l = l.out.items ≡ l.initial.out.items ++ bounds_text (take l.row-index l.rows)
