use Rattle.std.proofs.Common.{◌≡◌, ◌∙◌, ◌++◌, ◌∷◌, [], arith, ap, List, ℕ, Option, subst, ◌-◌}
use Rattle.std.specs.Prelude.{vec_len}
use Rattle.std.specs.Option.{option_to_list}
use Rattle.pb_database.specs.inner.Mirrors.{IsCovered}
use Rattle.pb_database.proofs.Refuting.{covered-less, nothing_taken}
use Rattle.pb_database.proofs.listed.leave.Goals as goal

pub newest-preserved : goal.newest-preserved
newest-preserved c =
    let parts : c.newest.places.items ≡ c.pop.new.self.items ++ c.in-Some.place ∷ [] = c.pop.ensures.items ∙ ap (λ (o : Option ℕ). c.pop.new.self.items ++ option_to_list o) c.in-Some.is in
    covered-less c.args.engine.now.vars c.newest.places.items c.pop.new.self.items c.in-Some.place c.newest.engine c.remove.new.self c.remove.result parts c.newest.invariant c.remove.ensures.answer c.remove.ensures.after

pub returns : goal.returns
returns c =
    let empty : vec_len c.newest.places - 1 ≡ 0 = omega (arith, c.in_default.ensures.cases.0) in
    let rest : c.pop.new.self.items ≡ [] = c.pop.ensures.rest ∙ nothing_taken (vec_len c.newest.places - 1) c.newest.places.items empty in
    let none : c.newest.places.items ≡ [] = c.pop.ensures.items ∙ (ap (λ (xs : List ℕ). xs ++ option_to_list c.pop.result) rest ∙ ap option_to_list c.in_default.is) in
    record { idle = subst (λ (ps : List ℕ). IsCovered c.args.engine.now.vars ps c.newest.engine) none c.newest.invariant }
