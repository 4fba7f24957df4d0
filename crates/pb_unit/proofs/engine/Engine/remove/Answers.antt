use Rattle.std.proofs.Common.{◌≡◌, refl, None, set, ◌∙◌, sym, ap}
use Rattle.pb_unit.specs.Trails.{Held}
use Rattle.pb_unit.specs.Index.{IsStore}
use Rattle.pb_unit.proofs.Queueing.{store_read, kept_fresh, within_read}
use Rattle.pb_unit.proofs.Placing.{within_removed}
use Rattle.pb_unit.proofs.engine.Engine.remove.Goals as goal

pub invariant_of-self : goal.invariant_of-self
invariant_of-self c =
    let r = c.rewind.new.self in
    let q = c.let_go.new.self in
    let vars : r.held.vars ≡ c.self.inside.queue.held.vars = ap (λ (h : Held). h.vars) c.rewind.ensures.held in
    let held = c.let_go.ensures.stay.held ∙ c.clear-2.ensures in
    let store : IsStore r.held.vars (set r.places c.args.place None) q.lists q.kept.items q.tight.items =
    store_read q.held.vars r.held.vars (ap (λ (h : Held). h.vars) held) c.let_go.ensures.removed refl refl refl c.let_go.ensures.store in
    rw (c.clear.ensures, held, c.let_go.ensures.removed, c.let_go.ensures.stay.counted ∙ c.rewind.ensures.counted, c.let_go.ensures.stay.phase ∙ c.rewind.ensures.phase)
    (kept_fresh c.self.inside.assumed.vars r.held.vars (set r.places c.args.place None) q.lists q.kept.items q.tight.items (c.self.invariant.same_vars ∙ sym vars)
    (within_removed r.held.vars r.places c.args.place (within_read (sym vars) (sym c.rewind.ensures.places) c.self.invariant.engine.within)) store)
