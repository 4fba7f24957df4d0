use Rattle.std.proofs.Common.{◌≡◌, ◌≤◌, ◌+◌, length}
use Rattle.std.specs.Prelude.{slice_index}
use Rattle.pb_unit.specs.Index.{IsAscending}
use Rattle.pb_unit.proofs.index.starts_of.Given as goal

abbrev pub invariant-loop-count : goal.invariant-loop-count
invariant-loop-count l = record {
  size : length l.starts.items ≡ l.count-index + 1;
  last : slice_index l.starts.items l.count-index ≡ l.next;
  fits : l.next ≤ 4294967295;
  ascending : IsAscending l.starts.items;
}
