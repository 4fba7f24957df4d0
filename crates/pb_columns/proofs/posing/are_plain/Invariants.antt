use Rattle.std.proofs.Common.{◌≡◌, All, pos, take}
use Rattle.pb_columns.proofs.posing.are_plain.Given as goal

abbrev pub invariant-loop-place : goal.invariant-loop-place
invariant-loop-place l = All (λ m. m.condition ≡ pos 0) (take l.place l.sums)
