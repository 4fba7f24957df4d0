use Rattle.std.proofs.Common.{◌≡◌, ◌≤◌, ◌<◌, ◌+◌, ◌++◌, ◌∙◌, [], ℕ, List, take, drop, length, subst, sym, ap}
use Rattle.std.specs.Prelude.{max}
use Rattle.std.specs.Bool.{OnTrue, OnFalse}
use Rattle.std.proofs.lemmas.Bool.{OnTrue_from}
use Rattle.pb_unit.specs.declared.kept.Counters.{Counters}
use Rattle.pb_norm.specs.Constraints.{Weighted}
use Rattle.pb_unit.specs.Index.{alert_at, IsCounted, IsEntered}
use Rattle.pb_unit.proofs.Entering.{entered_none}
use Rattle.pb_unit.proofs.Queueing.{written}
use Rattle.pb_unit.proofs.store.enter.Goals as goal

pub enter_all-requires-clause-entered : goal.enter_all-requires-clause-entered
enter_all-requires-clause-entered c =
    subst (λ (ks : List Counters). IsEntered c.args.spot.now.vars c.args.spot.now.places.now c.args.lists.now ks c.args.spot.now.place []) (sym c.deref_mut.ensures.value)
    (entered_none c.args.spot.now.vars c.args.spot.now.places.now c.args.lists.now c.grow.new.kept.items c.args.spot.now.place c.grow.ensures.counts
    (c.grow.ensures.rooms c.args.spot.now.place ∙ c.requires.unused) c.args.spot.now.empty c.if-not-grow.ensures.known)

-- what was written is the list, and nothing is left of the old one
all_written : (c : goal.After-kept-1) → take c.grow.new.kept.len (c.enter_all.new.kept ++ drop (length c.enter_all.new.kept) c.grow.new.kept.items) ≡ c.enter_all.new.kept
all_written c = written c.grow.new.kept.len c.enter_all.new.kept c.grow.new.kept.items (c.enter_all.auto.kept ∙ c.deref_mut.ensures.len)

as_long : (c : goal.After-kept-1) → length (take c.grow.new.kept.len (c.enter_all.new.kept ++ drop (length c.enter_all.new.kept) c.grow.new.kept.items)) ≡ length c.grow.new.kept.items
as_long c = ap (λ (ks : List Counters). length ks) (all_written c) ∙ (c.enter_all.auto.kept ∙ ap (λ (ks : List Counters). length ks) c.deref_mut.ensures.value)

pub enter_all-requires-clause-known : goal.enter_all-requires-clause-known
enter_all-requires-clause-known c = subst (λ (ks : List Counters). c.args.spot.now.place < length ks) (sym c.deref_mut.ensures.value) c.if-not-grow.ensures.known

pub returns-clause-entered : goal.returns-clause-entered
returns-clause-entered c =
    subst (λ (ks : List Counters). OnTrue c.enter_all.result (IsEntered c.args.spot.now.vars c.args.spot.now.places.now c.enter_all.new.lists ks c.args.spot.now.place c.args.constraint.now.terms)) (sym (all_written c))
    (subst (λ (ts : List Weighted). OnTrue c.enter_all.result (IsEntered c.args.spot.now.vars c.args.spot.now.places.now c.enter_all.new.lists c.enter_all.new.kept c.args.spot.now.place ts)) c.terms.ensures.weights c.enter_all.ensures.entered)

pub returns-clause-refused : goal.returns-clause-refused
returns-clause-refused c =
    subst (λ (ks : List Counters). OnFalse c.enter_all.result (IsCounted c.args.spot.now.vars c.args.spot.now.places.now c.enter_all.new.lists ks [])) (sym (all_written c)) c.enter_all.ensures.refused

pub returns-clause-alerts : goal.returns-clause-alerts
returns-clause-alerts c = λ p.
    ap (λ (ks : List Counters). alert_at ks p) (all_written c) ∙
    (c.enter_all.ensures.alerts p ∙ (ap (λ (ks : List Counters). alert_at ks p) c.deref_mut.ensures.value ∙ c.grow.ensures.alerts p))

pub returns-clause-known : goal.returns-clause-known
returns-clause-known c = OnTrue_from c.enter_all.result _ (λ yes. subst (λ (n : ℕ). c.args.spot.now.place < n) (sym (as_long c)) c.if-not-grow.ensures.known)

pub returns-clause-size : goal.returns-clause-size
returns-clause-size c = subst (λ (n : ℕ). n ≤ max (length c.args.kept.now.items) (c.args.spot.now.place + 1)) (sym (as_long c)) c.grow.ensures.size
