use Rattle.std.proofs.Common.{◌≡◌, take}
use Rattle.pb_norm.specs.Constraints.{terms_of}
use Rattle.pb_database.proofs.short_sum.wide_terms.Given as goal

abbrev pub invariant-loop-term : goal.invariant-loop-term
invariant-loop-term l = l.list.items ≡ terms_of (take l.term-index l.terms)
