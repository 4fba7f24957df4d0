use Rattle.std.proofs.Common.{take}
use Rattle.pb_named.proofs.NumberLemmas.{Numbers}
use Rattle.pb_named.proofs.sums.terms_of.Given as goal

abbrev pub invariant-loop-term : goal.invariant-loop-term
invariant-loop-term l = Numbers l.table l.initial.products l.initial.places (take l.term-index l.terms) l.products l.places l.list
