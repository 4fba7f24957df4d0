use Rattle.std.proofs.Common.{◌≡◌}
use Rattle.pb_diagram.proofs.diagram.list_levels.Given as goal

abbrev pub invariant-loop-level : goal.invariant-loop-level
invariant-loop-level l = l.levels.items ≡ l.yielded
