use Rattle.pb_encode.specs.BoundLines.{words_of}
use Rattle.std.proofs.Common.{◌≡◌, ◌∙◌, ℕ, List, refl, subst}
use Rattle.pb_desk.specs.Desk.{same}
use Rattle.pb_desk.proofs.Steps.{begin}
use Rattle.pb_suite.specs.inner.Saying.{EndsSaying}
use Rattle.pb_suite.specs.inner.Saying.EndsTelling.{says, no_memory}
use Rattle.pb_suite.proofs.storing.say_summary.Goals as goal

pub returns-in-Ok : goal.returns-in-Ok
returns-in-Ok g c =
    let is_said : c.deref.result.now ≡ words_of c.args.options.now c.args.problem.now = c.deref.ensures.value ∙ c.in-Ok.ensures in
    says c.say.result (subst (λ (xs : List ℕ). EndsSaying xs (g.D.Desk.state c.args.desk.now) (g.D.Desk.state c.say.new.desk) c.say.result) is_said c.say.ensures)

pub returns-in-Err : goal.returns-in-Err
returns-in-Err g c = no_memory (begin same (g.D.Desk.state c.args.desk.now) (λ v. refl))
