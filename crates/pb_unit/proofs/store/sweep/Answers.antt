use Rattle.std.proofs.Common.{◌≡◌, ◌∙◌, ◌++◌, [], ℕ, take, drop, List, sym, subst, ap, length}
use Rattle.pb_unit.specs.declared.kept.Counters.{Counters}
use Rattle.pb_unit.specs.Index.{code, units_at, others_at, IsCounted}
use Rattle.pb_unit.proofs.Queueing.{written}
use Rattle.pb_unit.proofs.Sweeping.{swept, filtered_list, get_cut}
use Rattle.std.proofs.lemmas.List.{length-take-le}
use Rattle.pb_unit.proofs.store.sweep.Goals as goal

pub returns-clause-counts : goal.returns-clause-counts
returns-clause-counts c =
    let rooms : take c.truncate.new.self.len (c.sweep_rooms.new.kept ++ drop (length c.sweep_rooms.new.kept) c.truncate.new.self.items) ≡ c.sweep_rooms.new.kept =
    written c.truncate.new.self.len c.sweep_rooms.new.kept c.truncate.new.self.items (c.sweep_rooms.auto.kept ∙ c.deref_mut.ensures.len) in
    subst (λ (ks : List Counters). IsCounted c.args.vars c.args.places.now c.sweep.new.self ks []) (sym rooms)
    (swept c.args.vars c.args.places.now c.args.lists.now c.sweep.new.self c.args.kept.now.items c.sweep_rooms.new.kept c.requires.counts c.sweep.ensures.size
    (λ l. filtered_list c.args.places.now (units_at c.args.lists.now (code l)) (units_at c.sweep.new.self (code l)) (others_at c.args.lists.now (code l)) (others_at c.sweep.new.self (code l)) (c.sweep.ensures.units (code l)) (c.sweep.ensures.others (code l)))
    (c.sweep_rooms.auto.kept ∙ (ap (λ (ks : List Counters). length ks) (c.deref_mut.ensures.value ∙ (c.truncate.ensures.items ∙ ap (λ (n : ℕ). take n c.args.kept.now.items) c.len.ensures)) ∙ length-take-le (length c.args.places.now) c.args.kept.now.items c.requires.counts.longer)) c.sweep_rooms.ensures.clean
    (λ p d at. c.sweep_rooms.ensures.others p d at ∙ ap (λ (k : Counters). k.room) (get_cut c.args.places.now c.args.kept.now.items c.deref_mut.result.now p d (c.deref_mut.ensures.value ∙ (c.truncate.ensures.items ∙ ap (λ (n : ℕ). take n c.args.kept.now.items) c.len.ensures)) at))
    (λ p d at. c.sweep_rooms.ensures.alerts p ∙ ap (λ (k : Counters). k.alert) (get_cut c.args.places.now c.args.kept.now.items c.deref_mut.result.now p d (c.deref_mut.ensures.value ∙ (c.truncate.ensures.items ∙ ap (λ (n : ℕ). take n c.args.kept.now.items) c.len.ensures)) at)))
