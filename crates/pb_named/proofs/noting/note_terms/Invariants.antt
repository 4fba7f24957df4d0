use Rattle.std.proofs.Common.{take}
use Rattle.pb_named.specs.NamedProblems.{names_of}
use Rattle.pb_named.proofs.TableLemmas.{Notes}
use Rattle.pb_named.proofs.noting.note_terms.Given as goal

abbrev pub invariant-loop-term : goal.invariant-loop-term
invariant-loop-term l = Notes l.initial.table l.initial.places (names_of (take l.term-index l.terms)) l.table l.places
