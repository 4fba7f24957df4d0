use Rattle.pb_named.proofs.NumberLemmas.{NumbersFront}
use Rattle.pb_named.proofs.numbering.each_of.Given as goal

abbrev pub invariant-loop-next : goal.invariant-loop-next
invariant-loop-next l = NumbersFront l.table l.initial.products l.initial.places l.statements l.next-iterator l.products l.places l.list
