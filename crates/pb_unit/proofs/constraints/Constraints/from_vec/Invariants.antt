use Rattle.std.proofs.Common.{◌≡◌, ◌++◌}
use Rattle.std.specs.Vec.Iter.{into_iter_items}
use Rattle.pb_unit.proofs.constraints.Constraints.from_vec.Given as goal

abbrev pub invariant-loop-constraint : goal.invariant-loop-constraint
invariant-loop-constraint l = record {
  whole : l.yielded ++ into_iter_items l.constraint-iterator ≡ l.fn.constraints.items;
  so_far : l.list ≡ l.yielded;
}
