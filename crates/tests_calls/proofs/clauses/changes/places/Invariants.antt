use Rattle.std.proofs.Common.{◌≡◌}
use Rattle.tests_calls.proofs.clauses.changes.places.Given as goal

abbrev pub invariant-loop-text : goal.invariant-loop-text
invariant-loop-text l = l.engine.vars ≡ 3
