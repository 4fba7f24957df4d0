use Rattle.std.proofs.Common.{◌≡◌, ◌+◌, take}
use Rattle.pb_columns.specs.Columns.{terms_asked}
use Rattle.pb_columns.proofs.places.sum_at.Given as goal

abbrev pub invariant-loop-at : goal.invariant-loop-at
invariant-loop-at l = l.left + terms_asked (take l.at l.sums) ≡ l.place
