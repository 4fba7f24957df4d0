use Rattle.std.proofs.Common.{◌≡◌, ◌++◌}
use Rattle.pb_named.proofs.statements.write_named.Given as goal

abbrev pub invariant-loop-term : goal.invariant-loop-term
invariant-loop-term l = l.initial.term-iterator ≡ l.list.items ++ l.term-iterator
