use Rattle.std.proofs.Common.{◌≡◌, drop}
use Rattle.pb_diagram.specs.GuardedSteps.{are_narrow}
use Rattle.pb_diagram.proofs.nodes.are_narrow.Given as goal

-- the levels from here on decide
abbrev pub invariant-loop-level : goal.invariant-loop-level
invariant-loop-level l = are_narrow l.most l.levels ≡ are_narrow l.most (drop l.level-index l.levels)
