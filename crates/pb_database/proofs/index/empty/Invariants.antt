use Rattle.std.proofs.Common.{◌≡◌, length}
use Rattle.pb_database.proofs.index.empty.Given as goal

abbrev pub invariant-loop-place : goal.invariant-loop-place
invariant-loop-place l = length l.lists.items ≡ l._place
