use Rattle.std.proofs.Common.{All, take}
use Rattle.pb_columns.specs.Columns.{IsCondition}
use Rattle.pb_columns.proofs.posing.first_stray.Given as goal

abbrev pub invariant-loop-place : goal.invariant-loop-place
invariant-loop-place l = All (λ m. IsCondition l.first m.condition) (take l.place l.sums)
