use Rattle.std.proofs.Common.{◌≡◌, ap, ◌∙◌, refl}
use Rattle.pb_unit.specs.States.{EngineState, placed}
use Rattle.pb_database.proofs.Mirroring.{keeps, keeps_same}
use Rattle.pb_database.proofs.Refuting.{tells_with, gone_from, stands_put}
use Rattle.pb_database.proofs.refutation.is_refuted_with_one.Goals as goal

pub returns-in_err-place-clause-kept : goal.returns-in_err-place-clause-kept
returns-in_err-place-clause-kept c = keeps_same c.args.engine.now c.add.new.self (c.in_err-place.ensures.refused refl)

pub returns-clause-kept : goal.returns-clause-kept
returns-clause-kept c =
    let free = c.in_ok-place.ensures.ok.0 in
    let put : c.propagate-outcome.new.self.places ≡ placed c.in_ok-place.place c.args.more.now c.args.engine.now.places = ap (λ (s : EngineState). s.places) c.propagate-outcome.ensures.same ∙ ap (λ (s : EngineState). s.places) c.in_ok-place.ensures.ok.1 in
    let vars : c.propagate-outcome.new.self.vars ≡ c.args.engine.now.vars = ap (λ (s : EngineState). s.vars) c.propagate-outcome.ensures.same ∙ ap (λ (s : EngineState). s.vars) c.in_ok-place.ensures.ok.1 in
    let gone = gone_from c.remove.result c.in_ok-place.place c.propagate-outcome.new.self c.remove.new.self c.remove.ensures.answer c.remove.ensures.after (stands_put c.args.engine.now c.propagate-outcome.new.self c.in_ok-place.place c.args.more.now free put) in
    keeps c.args.engine.now c.propagate-outcome.new.self c.remove.new.self c.in_ok-place.place c.args.more.now free put vars gone

pub returns-clause-answer : goal.returns-clause-answer
returns-clause-answer c =
    tells_with c.args.engine.now c.add.new.self c.propagate-outcome.new.self c.in_ok-place.place c.args.more.now c.propagate-outcome.result c.is_conflict.result c.in_ok-place.ensures.ok.0 c.in_ok-place.ensures.ok.1 c.propagate-outcome.ensures.same c.propagate-outcome.ensures.answer c.is_conflict.ensures
