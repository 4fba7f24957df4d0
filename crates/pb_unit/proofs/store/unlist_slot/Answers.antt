use Rattle.std.proofs.Common.{◌≡◌, ◌∙◌, [], List, length, ap, subst, sym}
use Rattle.std.specs.Vec.{with_items}
use Rattle.std.proofs.lemmas.List.{with_items_is}
use Rattle.pb_unit.specs.declared.kept.Counters.{Counters}
use Rattle.pb_unit.specs.Index.{IsStore, IsCounted, alert_at}
use Rattle.pb_unit.proofs.Unlisting.{store_unlisted}
use Rattle.pb_unit.proofs.store.unlist_slot.Goals as goal

pub unlist-requires : goal.unlist-requires
unlist-requires c = subst (λ (ks : List Counters). IsCounted c.args.spot.now.vars c.args.spot.now.places.now c.args.lists.now ks []) (sym c.deref_mut.ensures.value) c.requires.counts

pub returns-in-General : goal.returns-in-General
returns-in-General c =
    let is : (with_items c.args.kept.now c.unlist.new.kept).items ≡ c.unlist.new.kept = with_items_is c.args.kept.now c.unlist.new.kept (c.unlist.auto.kept ∙ c.deref_mut.ensures.len) in
    subst (λ (ks : List Counters). IsStore c.args.spot.now.vars c.args.spot.now.places.now c.unlist.new.lists ks c.args.tight.now.items) (sym is)
    (store_unlisted c.args.spot.now.vars c.args.spot.now.places.now c.args.lists.now c.unlist.new.lists c.args.kept.now.items c.unlist.new.kept c.args.tight.now.items
    (c.unlist.auto.kept ∙ ap (λ (ks : List Counters). length ks) c.deref_mut.ensures.value) c.unlist.ensures.counts
    (λ p. c.unlist.ensures.alerts p ∙ ap (λ (ks : List Counters). alert_at ks p) c.deref_mut.ensures.value) c.requires)
