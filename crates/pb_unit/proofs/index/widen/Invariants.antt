use Rattle.std.proofs.Common.{◌≡◌, ◌-◌, ℕ, [], length}
use Rattle.std.specs.Prelude.{slice_index_or}
use Rattle.pb_unit.proofs.index.widen.Given as goal

abbrev pub invariant-loop-alloc : goal.invariant-loop-alloc
invariant-loop-alloc l = (k : ℕ) → slice_index_or l.lists.items k [] ≡ slice_index_or l.initial.lists.items k []

abbrev pub decreases-loop-alloc : goal.decreases-loop-alloc
decreases-loop-alloc l = l.size - length l.lists.items
