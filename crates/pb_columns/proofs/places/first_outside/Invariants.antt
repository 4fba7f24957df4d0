use Rattle.std.proofs.Common.{All, take}
use Rattle.pb_columns.specs.Columns.{IsBelow}
use Rattle.pb_columns.proofs.places.first_outside.Given as goal

abbrev pub invariant-loop-place : goal.invariant-loop-place
invariant-loop-place l = All (IsBelow l.first) (take l.place l.numbers)
