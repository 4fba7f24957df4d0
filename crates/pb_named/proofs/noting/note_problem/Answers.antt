use Rattle.std.proofs.Common.{refl}
use Rattle.pb_named.proofs.TableLemmas.{notes-problem}
use Rattle.pb_named.proofs.noting.note_problem.Goals as goal

pub returns-clause-noted : goal.returns-clause-noted
returns-clause-noted c =
    (notes-problem c.args.problem.now _ _ _ _ _ _ _ _ c.terms_in.ensures refl
    (c.in_ok-note_terms.ensures.noted, c.in_ok-note_terms.ensures.places) (c.in_ok-note_statements.ensures.noted, c.in_ok-note_statements.ensures.places)).0

pub returns-clause-places : goal.returns-clause-places
returns-clause-places c =
    (notes-problem c.args.problem.now _ _ _ _ _ _ _ _ c.terms_in.ensures refl
    (c.in_ok-note_terms.ensures.noted, c.in_ok-note_terms.ensures.places) (c.in_ok-note_statements.ensures.noted, c.in_ok-note_statements.ensures.places)).1
