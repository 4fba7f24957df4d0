use Rattle.std.proofs.Common.{◌≡◌, ◌∙◌, sym, ap}
use Rattle.pb_unit.specs.Trails.{Held}
use Rattle.pb_unit.proofs.Queueing.{kept_fresh, within_read}
use Rattle.pb_unit.proofs.engine.Engine.reset.Goals as goal

pub invariant_of-self : goal.invariant_of-self
invariant_of-self c =
    let r = c.rewind.new.self in
    let vars : r.held.vars ≡ c.self.inside.queue.held.vars = ap (λ (h : Held). h.vars) c.rewind.ensures.held in
    rw (c.clear.ensures, c.clear-2.ensures, c.rewind.ensures.counted, c.rewind.ensures.phase)
    (kept_fresh c.self.inside.assumed.vars r.held.vars r.places r.lists r.kept.items r.tight.items (c.self.invariant.same_vars ∙ sym vars) (within_read (sym vars) (sym c.rewind.ensures.places) c.self.invariant.engine.within) c.rewind.ensures.store)
