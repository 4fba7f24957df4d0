use Rattle.std.proofs.Common.{◌≡◌, ◌-◌, ◌++◌}
use Rattle.std.specs.List.{range_with_len}
use Rattle.pb_family.proofs.deletion.push_ids.Given as goal

abbrev pub invariant-loop-next : goal.invariant-loop-next
invariant-loop-next l = l.ids.items ≡ l.fn.ids.items ++ range_with_len l.from (l.next - l.from)
