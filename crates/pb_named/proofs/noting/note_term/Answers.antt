use Rattle.pb_named.proofs.TableLemmas.{notes-term, notes-one}
use Rattle.pb_named.proofs.noting.note_term.Goals as goal

pub returns-clause-noted : goal.returns-clause-noted
returns-clause-noted c =
    (notes-term _ _ _ _ _ _ c.args.term.now _ _ c.lit.ensures c.more.ensures
    (notes-one _ _ _ _ _ c.in_ok-note.ensures.noted c.in_ok-note.ensures.places)
    (c.in_ok-note_lits.ensures.noted, c.in_ok-note_lits.ensures.places)).0

pub returns-clause-places : goal.returns-clause-places
returns-clause-places c =
    (notes-term _ _ _ _ _ _ c.args.term.now _ _ c.lit.ensures c.more.ensures
    (notes-one _ _ _ _ _ c.in_ok-note.ensures.noted c.in_ok-note.ensures.places)
    (c.in_ok-note_lits.ensures.noted, c.in_ok-note_lits.ensures.places)).1
