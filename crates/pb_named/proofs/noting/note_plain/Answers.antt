use Rattle.pb_named.proofs.TableLemmas.{notes-term_left}
use Rattle.pb_named.proofs.noting.note_plain.Goals as goal

pub loop-term-preserved : goal.loop-term-preserved
loop-term-preserved c = notes-term_left _ _ _ _ _ _ _ _ _ _ c.loop-term.invariant c.in-Some.ensures.steps c.in_ok-note_term.ensures.noted c.in_ok-note_term.ensures.places
