use Rattle.std.proofs.Common.{◌≡◌, take}
use Rattle.pb_columns.specs.Conditions.{greatest}
use Rattle.pb_columns.proofs.parts.greatest.Given as goal

abbrev pub invariant-loop-term : goal.invariant-loop-term
invariant-loop-term l = l.sum ≡ greatest (take l.term-index l.terms)
