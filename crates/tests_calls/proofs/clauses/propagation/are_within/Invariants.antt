use Rattle.std.proofs.Common.{take}
use Rattle.pb_norm.specs.Constraints.{AreVarsWithin}
use Rattle.tests_calls.proofs.clauses.propagation.are_within.Given as goal

abbrev pub invariant-loop-constraint : goal.invariant-loop-constraint
invariant-loop-constraint l = AreVarsWithin l.vars (take l.constraint-index l.constraints)
