use Rattle.std.proofs.Common.{take}
use Rattle.pb_norm.specs.Constraints.{weights, HasVarsWithin}
use Rattle.tests_calls.proofs.clauses.propagation.is_within.Given as goal

abbrev pub invariant-loop-term : goal.invariant-loop-term
invariant-loop-term l = HasVarsWithin l.vars (weights (take l.term-index l.terms))
