use Rattle.std.proofs.Common.{◌≡◌, take}
use Rattle.pb_columns.specs.Conditions.{least}
use Rattle.pb_columns.proofs.parts.least.Given as goal

abbrev pub invariant-loop-term : goal.invariant-loop-term
invariant-loop-term l = l.sum ≡ least (take l.term-index l.terms)
