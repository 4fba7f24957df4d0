use Rattle.std.proofs.Common.{◌≡◌, ◌≤◌, ◌⊎◌, ◌∙◌, ◌++◌, ℕ, take, drop, List, refl, sym, subst, ap, length}
use Rattle.std.specs.Prelude.{Contains}
use Rattle.pb_unit.specs.declared.kept.Counters.{Counters}
use Rattle.pb_unit.specs.States.{placed}
use Rattle.pb_unit.specs.Steps.{IsAlert}
use Rattle.pb_unit.specs.Trails.{Held}
use Rattle.pb_unit.specs.Index.{room_at, alert_at}
use Rattle.pb_unit.proofs.Queueing.{store_read, written}
use Rattle.pb_unit.proofs.Placing.{stored}
use Rattle.pb_unit.proofs.queue.Queue.put.Goals as goal

pub returns-clause-store : goal.returns-clause-store
returns-clause-store c =
    let q = c.args.self.now in
    let e = c.enter_and_put.new.self in
    let place = c.args.place in
    let vars : q.held.vars ≡ e.held.vars = sym (ap (λ (h : Held). h.vars) c.enter_and_put.ensures.stay.held) in
    let kept : take e.kept.len (c.settle.new.kept ++ drop (length c.settle.new.kept) e.kept.items) ≡ c.settle.new.kept =
    written e.kept.len c.settle.new.kept e.kept.items (c.settle.auto.kept ∙ c.deref_mut.ensures.len) in
    let is : e.places ≡ placed place c.args.constraint q.places = c.if-not-enter_and_put.ensures.placed in
    let tight : e.tight.items ≡ q.tight.items = cc (c.enter_and_put.ensures.tight, c.reserve.ensures.items) in
    let alert : IsAlert (alert_at c.settle.new.kept place) c.args.constraint = subst (λ (a : ℕ). IsAlert a c.args.constraint) (sym c.settle.ensures.alert) c.alert_of-alert.ensures in
    let here : (alert_at c.settle.new.kept place ≤ room_at e.kept.items place) ⊎ Contains c.settle.new.tight.items place =
    subst (λ (ks : List Counters). (alert_at c.settle.new.kept place ≤ room_at ks place) ⊎ Contains c.settle.new.tight.items place) c.deref_mut.ensures.value c.settle.ensures.listed in
    store_read q.held.vars e.held.vars vars (sym is) refl (sym kept) refl
    (stored q.held.vars q.places e.lists q.kept.items e.kept.items c.settle.new.kept q.tight.items c.settle.new.tight.items place c.args.constraint c.requires.near c.requires.store.even c.requires.store.listed c.if-not-enter_and_put.ensures.entered c.enter_and_put.ensures.alerts c.if-not-enter_and_put.ensures.known c.enter_and_put.ensures.size
    (c.settle.auto.kept ∙ ap (λ (ks : List Counters). length ks) c.deref_mut.ensures.value)
    (λ p. c.settle.ensures.rooms p ∙ ap (λ (ks : List Counters). room_at ks p) c.deref_mut.ensures.value)
    alert
    (λ p ne. c.settle.ensures.others p ne ∙ ap (λ (ks : List Counters). alert_at ks p) c.deref_mut.ensures.value)
    here
    (λ p h. c.settle.ensures.more p (subst (λ (ts : List ℕ). Contains ts p) (sym tight) h)))
