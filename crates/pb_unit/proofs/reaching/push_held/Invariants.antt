use Rattle.std.proofs.Common.{◌≡◌, ◌++◌, ◌-◌}
use Rattle.pb_unit.specs.Reaching.{held_to}
use Rattle.pb_unit.proofs.reaching.push_held.Given as goal

abbrev pub invariant-loop-index : goal.invariant-loop-index
invariant-loop-index l = l.out.items ≡ l.initial.out.items ++ held_to l.held.lits (l.index - 1)
