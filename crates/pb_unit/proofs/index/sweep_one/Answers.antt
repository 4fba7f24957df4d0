use Rattle.std.proofs.Common.{◌∙◌, ap, rules}
use Rattle.std.specs.Prelude.{filter, is_some}
use Rattle.std.proofs.lemmas.Fn.{filter_same}
use Rattle.pb_unit.specs.declared.index.Occurrence.{Occurrence}
use Rattle.pb_unit.specs.States.{at_place}
use Rattle.pb_unit.proofs.index.sweep_one.Goals as goal

pub returns : goal.returns
returns c =
    filter_same _ (λ (o : Occurrence). is_some (at_place c.args.places.now o.place)) _ (λ x b f' k. search rules) _ _ c.retain.ensures.filtered
    ∙ ap (filter (λ (o : Occurrence). is_some (at_place c.args.places.now o.place))) c.list.view_is
