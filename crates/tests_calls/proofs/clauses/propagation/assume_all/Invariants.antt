use Rattle.std.proofs.Common.{◌≡◌}
use Rattle.tests_calls.proofs.clauses.propagation.assume_all.Given as goal

abbrev pub invariant-loop-lit : goal.invariant-loop-lit
invariant-loop-lit l = l.engine.vars ≡ l.vars
