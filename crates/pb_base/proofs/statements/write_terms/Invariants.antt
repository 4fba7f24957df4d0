use Rattle.std.proofs.Common.{◌≡◌, ◌++◌}
use Rattle.pb_base.proofs.statements.write_terms.Given as goal

abbrev pub invariant-loop-term : goal.invariant-loop-term
invariant-loop-term l = l.initial.term-iterator ≡ l.list ++ l.term-iterator
