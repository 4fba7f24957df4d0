use Rattle.std.proofs.Common.{ap, sym, subst, List, ℕ, ◌++◌, ◌∷◌, []}
use Rattle.pb_unit.specs.States.{EngineState, removed}
use Rattle.pb_database.specs.inner.Mirrors.{IsCovered, HasJust}
use Rattle.pb_database.proofs.Refuting.{covered-added, covered-again, just-added, gone_from, stands_put}
use Rattle.pb_database.proofs.listed.join.Goals as goal

pub returns-in-Err-clause-covered : goal.returns-in-Err-clause-covered
returns-in-Err-clause-covered c =
    let free = c.in-Ok.ensures.ok.0 in
    let put = c.in-Ok.ensures.ok.1 in
    let vars = c.args.engine.now.vars in
    let gone = gone_from c.remove.result c.in-Ok.place c.add.new.self c.remove.new.self c.remove.ensures.answer c.remove.ensures.after (stands_put c.args.engine.now c.add.new.self c.in-Ok.place c.args.constraint.now free (ap (λ (s : EngineState). s.places) put)) in
    let again : IsCovered vars c.args.places.now.items (removed c.in-Ok.place c.add.new.self) =
    subst (λ (s : EngineState). IsCovered vars c.args.places.now.items (removed c.in-Ok.place s)) (sym put) (covered-again vars c.args.places.now.items c.args.engine.now c.in-Ok.place c.args.constraint.now free c.requires.covered) in
    subst (λ (ps : List ℕ). IsCovered vars ps c.remove.new.self) (sym c.in-Err.ensures.items) (subst (IsCovered vars c.args.places.now.items) (sym gone) again)

pub returns-in-Ok-push-clause-covered : goal.returns-in-Ok-push-clause-covered
returns-in-Ok-push-clause-covered c =
    let free = c.in-Ok.ensures.ok.0 in
    let vars = c.args.engine.now.vars in
    subst (λ (ps : List ℕ). IsCovered vars ps c.add.new.self) (sym c.in-Ok-push.ensures.items)
    (subst (IsCovered vars (c.args.places.now.items ++ c.in-Ok.place ∷ [])) (sym c.in-Ok.ensures.ok.1) (covered-added vars c.args.places.now.items c.args.engine.now c.in-Ok.place c.args.constraint.now free c.requires.covered))

pub returns-in-Ok-push-clause-joined : goal.returns-in-Ok-push-clause-joined
returns-in-Ok-push-clause-joined c = λ cs h. subst (HasJust (cs ++ c.args.constraint.now ∷ [])) (sym c.in-Ok.ensures.ok.1) (just-added cs c.args.engine.now c.in-Ok.place c.args.constraint.now c.in-Ok.ensures.ok.0 h)
