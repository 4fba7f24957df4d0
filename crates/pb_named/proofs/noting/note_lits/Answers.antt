use Rattle.std.proofs.Common.{rules}
use Rattle.pb_named.proofs.TableLemmas.{notes-lit_more, notes-one}
use Rattle.pb_named.proofs.noting.note_lits.Goals as goal

pub loop-lit-preserved : goal.loop-lit-preserved
loop-lit-preserved c =
    notes-lit_more _ _ _ _ _ _ c.args.lits.now c.loop-lit.lit-index c.lit-item.result (search rules) (search rules) c.loop-lit.invariant
    (notes-one _ _ _ _ _ c.in_ok-note.ensures.noted c.in_ok-note.ensures.places)
