use Rattle.std.proofs.Common.{◌≡◌, List, ℕ, Option, ◌∙◌, sym, ap, subst}
use Rattle.pb_norm.specs.Constraints.{Constraint, HasVarsWithin}
use Rattle.pb_unit.specs.States.{EngineState, IsEngine, StandWithin}
use Rattle.pb_unit.specs.Trails.{Held}
use Rattle.pb_unit.proofs.Queueing.{kept_fresh, kept_store, within_read}
use Rattle.pb_unit.proofs.Placing.{within_placed}
use Rattle.pb_unit.proofs.engine.Engine.add.Goals as goal

pub invariant_of-self-then-not-put : goal.invariant_of-self-then-not-put
invariant_of-self-then-not-put c =
    let was = c.self.inside.queue in
    let q = c.put.new.self in
    let held : q.held ≡ was.held = c.put.ensures.stay.held ∙ c.rewind.ensures.held in
    let places : q.places ≡ was.places = c.if-not-put.ensures.placed ∙ c.rewind.ensures.places in
    let state : List (Option Constraint) → Held → EngineState = λ ps h. record { vars = h.vars; places = ps; given = c.self.inside.assumed.lits; held = h.lits } in
    let engine : IsEngine (state q.places q.held) =
    subst (λ (ps : List (Option Constraint)). IsEngine (state ps q.held)) (sym places)
    (subst (λ (h : Held). IsEngine (state was.places h)) (sym held) c.self.invariant.engine) in
    rw (c.put.ensures.stay.counted ∙ c.rewind.ensures.counted, c.put.ensures.stay.phase ∙ c.rewind.ensures.phase)
    (kept_store c.self.inside.assumed.vars (state q.places q.held) q.lists q.kept.items q.tight.items (c.self.invariant.same_vars ∙ sym (ap (λ (h : Held). h.vars) held)) engine c.put.ensures.store)

pub invariant_of-self-2 : goal.invariant_of-self-2
invariant_of-self-2 c =
    let was = c.self.inside.queue in
    let q = c.put.new.self in
    let vars : q.held.vars ≡ was.held.vars = ap (λ (h : Held). h.vars) (c.put.ensures.stay.held ∙ c.rewind.ensures.held) in
    let same : q.held.vars ≡ c.args.self.now.vars = vars ∙ ap (λ (s : EngineState). s.vars) c.self.view_is in
    let fit : HasVarsWithin q.held.vars c.in_ok-copy.copy.terms = subst (λ (d : Constraint). HasVarsWithin q.held.vars d.terms) (sym c.in_ok-copy.ensures) (subst (λ (n : ℕ). HasVarsWithin n c.args.constraint.now.terms) (sym same) c.requires.within) in
    let within : StandWithin q.held.vars q.places =
    subst (StandWithin q.held.vars) (sym c.if-not-put.ensures.placed)
    (within_placed q.held.vars c.rewind.new.self.places c.free_place-place.result c.in_ok-copy.copy c.free_place-place.ensures.near fit (within_read (sym vars) (sym c.rewind.ensures.places) c.self.invariant.engine.within)) in
    rw (c.clear.ensures, c.clear-2.ensures, c.put.ensures.stay.counted ∙ c.rewind.ensures.counted, c.put.ensures.stay.phase ∙ c.rewind.ensures.phase)
    (kept_fresh c.self.inside.assumed.vars q.held.vars q.places q.lists q.kept.items q.tight.items (c.self.invariant.same_vars ∙ sym vars) within c.put.ensures.store)
