use Rattle.std.proofs.Common.{◌≡◌, ◌<◌, ◌∙◌, ap, subst, List, length, get_or}
use Rattle.pb_unit.specs.declared.index.Occurrence.{Occurrence}
use Rattle.pb_unit.specs.Index.{HasOneMore}
use Rattle.pb_unit.proofs.Unlisting.{one_more}
use Rattle.pb_unit.proofs.index.Occurrences.take.Goals as goal

pub returns-in-Some-clause-at : goal.returns-in-Some-clause-at
returns-in-Some-clause-at c =
    ap (λ (o : Occurrence). o.place) c.remove.ensures.value ∙
    subst (λ (os : List Occurrence). (get_or os c.in-Some.index c.remove.result).place ≡ c.args.place) c.deref.ensures.value (c.in-Some.ensures.at c.remove.result)

pub returns-in-Some-clause-taken : goal.returns-in-Some-clause-taken
returns-in-Some-clause-taken c =
    let below : c.in-Some.index < length c.self.inside.items.items = subst (λ (os : List Occurrence). c.in-Some.index < length os) c.deref.ensures.value c.in-Some.ensures.below in
    subst (λ (os : List Occurrence). HasOneMore c.remove.result c.remove.new.self.items os) c.self.view_is
    (one_more c.self.inside.items.items c.remove.new.self.items c.in-Some.index c.remove.result below c.remove.ensures.value c.remove.ensures.items)
