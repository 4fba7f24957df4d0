use Rattle.std.proofs.Common.{◌≡◌, ◌<◌, ◌++◌}
use Rattle.pb_diagram.specs.Guards.{path}
use Rattle.pb_diagram.proofs.lines.push_path.Given as goal

abbrev pub invariant-loop-place : goal.invariant-loop-place
invariant-loop-place l = record {
  some : l.from < l.place;
  pushed : l.ops.items ≡ l.fn.ops.items ++ path l.order l.from l.place;
}
