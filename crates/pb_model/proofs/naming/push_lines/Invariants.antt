use Rattle.std.proofs.Common.{◌≡◌, ◌+◌, ◌++◌}
use Rattle.std.specs.List.{flat_map, range_with_len}
use Rattle.pb_model.specs.MapText.{map_line}
use Rattle.pb_model.proofs.naming.push_lines.Given as goal

abbrev pub invariant-loop-place : goal.invariant-loop-place
invariant-loop-place l = l.out.items ≡ l.initial.out.items ++ flat_map (map_line l.problem) (range_with_len (l.problem.numbered + 1) l.place)
