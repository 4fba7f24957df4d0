use Rattle.pb_named.proofs.TableLemmas.{TermsNotedLeft}
use Rattle.pb_named.proofs.noting.note_plain.Given as goal

abbrev pub invariant-loop-term : goal.invariant-loop-term
invariant-loop-term l = TermsNotedLeft l.initial.table l.initial.places l.initial.term-iterator l.table l.places l.term-iterator
