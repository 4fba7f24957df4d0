use Rattle.std.proofs.Common.{rules}
use Rattle.pb_named.specs.NamedProblems.{term_names}
use Rattle.pb_named.proofs.TableLemmas.{notes-item_more}
use Rattle.pb_named.proofs.noting.note_terms.Goals as goal

pub loop-term-preserved : goal.loop-term-preserved
loop-term-preserved c =
    notes-item_more term_names _ _ _ _ _ _ c.args.terms.now c.loop-term.term-index c.term-item.result (search rules) (search rules) c.loop-term.invariant (c.in_ok-note_term.ensures.noted, c.in_ok-note_term.ensures.places)
