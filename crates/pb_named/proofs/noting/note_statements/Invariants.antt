use Rattle.pb_named.proofs.TableLemmas.{NotesLeft}
use Rattle.pb_named.proofs.noting.note_statements.Given as goal

abbrev pub invariant-loop-next : goal.invariant-loop-next
invariant-loop-next l = NotesLeft l.initial.table l.initial.places l.initial.next-iterator l.table l.places l.next-iterator
