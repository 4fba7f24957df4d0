use Rattle.std.proofs.Common.{◌≡◌, take}
use Rattle.pb_norm.specs.Constraints.{weights}
use Rattle.pb_database.proofs.short_sum.short_terms.Given as goal

abbrev pub invariant-loop-term : goal.invariant-loop-term
invariant-loop-term l = l.list.items ≡ weights (take l.term-index l.terms)
