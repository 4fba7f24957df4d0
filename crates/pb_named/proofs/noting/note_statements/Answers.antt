use Rattle.pb_named.proofs.TableLemmas.{notes-left}
use Rattle.pb_named.proofs.noting.note_statements.Goals as goal

pub loop-next-preserved : goal.loop-next-preserved
loop-next-preserved c = notes-left _ _ _ _ _ _ _ _ _ _ c.loop-next.invariant c.in-Some.ensures.steps c.in_ok-note_body.ensures.noted c.in_ok-note_body.ensures.places
