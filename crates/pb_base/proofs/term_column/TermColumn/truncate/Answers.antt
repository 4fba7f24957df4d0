use Rattle.std.proofs.Common.{◌∙◌, List, map, take, ap, sym}
use Rattle.std.proofs.lemmas.List.{take-map}
use Rattle.pb_base.specs.declared.literal.Term.{Term}
use Rattle.pb_base.specs.declared.packed.PackedTerm.{PackedTerm}
use Rattle.pb_base.specs.inner.Packing.{term_in}
use Rattle.pb_base.proofs.term_column.TermColumn.truncate.Goals as goal

pub returns : goal.returns
returns c =
    ap (λ (ts : List PackedTerm). map (term_in c.self.inside.wide.items) ts) c.truncate.ensures.items ∙ sym (take-map _ _ _) ∙ ap (λ (ts : List Term). take c.args.count ts) c.self.view_is
