use Rattle.std.proofs.Common.{◌≤◌, ◌∙◌, ◌↔◌, ℕ, List, ap, subst, sym}
use Rattle.std.specs.Prelude.{All, Contains}
use Rattle.std.proofs.lemmas.List.Elements.{All-weaker}
use Rattle.pb_base.specs.declared.literal.Lit.{Lit}
use Rattle.pb_unit.specs.States.{EngineState, standing}
use Rattle.pb_unit.specs.Trails.{Held}
use Rattle.pb_unit.proofs.Standing.{standing_all}
use Rattle.pb_unit.specs.Reaching.{held_to, AreReachedOver, IsUpTo, OfLit}
use Rattle.pb_unit.proofs.Probed.{conflict_held, reached_held, within_most}
use Rattle.pb_unit.proofs.reaching.held_by_engine.Goals as goal

pub over-requires : goal.over-requires
over-requires c = record { within = within_most c.args.vars c.args.forms c.requires.tables.constraints }

pub assume_all-requires-clause-within : goal.assume_all-requires-clause-within
assume_all-requires-clause-within c =
    let vars = ap (λ (s : EngineState). s.vars) c.in_ok-engine.ensures.start in
    subst (λ (most : ℕ). All (λ (l : Lit). l.var ≤ most) c.args.given.now) (sym vars) (All-weaker (OfLit (IsUpTo c.args.vars)) (λ (l : Lit). l.var ≤ c.args.vars) (λ l h. h.high) c.args.given.now c.requires.tables.lits)

pub returns-in-Conflict : goal.returns-in-Conflict
returns-in-Conflict c =
    let s = c.propagate.new.self in
    let over = ap standing (ap (λ (t : EngineState). t.places) c.propagate.ensures.same ∙ c.assume_all.ensures.places ∙ ap (λ (t : EngineState). t.places) c.in_ok-engine.ensures.start) ∙ standing_all c.args.forms in
    let same = subst (λ (ls : List Lit). (l : Lit) → Contains ls l ↔ Contains c.args.given.now l) (sym (ap (λ (t : EngineState). t.given) c.propagate.ensures.same)) c.assume_all.ensures.assumed.exact in
    conflict_held c.args.vars c.args.forms c.args.given.now c.requires.tables.constraints c.requires.tables.lits s over same c.in-Conflict.place c.in-Conflict.ensures.answer

pub returns-in-Fixed : goal.returns-in-Fixed
returns-in-Fixed c =
    let s = c.propagate.new.self in
    let over = ap standing (ap (λ (t : EngineState). t.places) c.propagate.ensures.same ∙ c.assume_all.ensures.places ∙ ap (λ (t : EngineState). t.places) c.in_ok-engine.ensures.start) ∙ standing_all c.args.forms in
    let same = subst (λ (ls : List Lit). (l : Lit) → Contains ls l ↔ Contains c.args.given.now l) (sym (ap (λ (t : EngineState). t.given) c.propagate.ensures.same)) c.assume_all.ensures.assumed.exact in
    subst (λ (h : Held). AreReachedOver c.args.forms c.args.given.now (held_to h.lits c.args.vars)) (sym c.into_held.ensures)
    (reached_held c.args.vars c.args.forms c.args.given.now c.requires.tables.constraints c.requires.tables.lits s over same c.in-Fixed.ensures.answer c.propagate.ensures.reached)
