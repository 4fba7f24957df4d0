use Rattle.std.proofs.Common.{ap, refl}
use Rattle.pb_unit.specs.States.{EngineState}
use Rattle.pb_database.proofs.Mirroring.{keeps, keeps_same}
use Rattle.pb_database.proofs.Refuting.{gone_from, stands_put}
use Rattle.pb_database.proofs.entering.add_short.Goals as goal

pub returns-in_default-clause-kept : goal.returns-in_default-clause-kept
returns-in_default-clause-kept c = λ none. keeps_same c.args.engine.now c.add.new.self (c.in_default.ensures.refused refl)

pub returns-then-place-clause-kept : goal.returns-then-place-clause-kept
returns-then-place-clause-kept c = λ none.
    let free = c.in-Ok.ensures.ok.0 in
    let put = ap (λ (s : EngineState). s.places) c.in-Ok.ensures.ok.1 in
    let vars = ap (λ (s : EngineState). s.vars) c.in-Ok.ensures.ok.1 in
    let gone = gone_from c.remove.result c.in-Ok.place c.add.new.self c.remove.new.self c.remove.ensures.answer c.remove.ensures.after (stands_put c.args.engine.now c.add.new.self c.in-Ok.place c.args.constraint.now free put) in
    keeps c.args.engine.now c.add.new.self c.remove.new.self c.in-Ok.place c.args.constraint.now free put vars gone
