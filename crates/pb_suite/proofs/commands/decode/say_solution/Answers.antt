use Rattle.std.proofs.Common.{◌≡◌, ◌∙◌, ◌++◌, ℕ, List, ap, subst}
use Rattle.pb_model.specs.SolutionText.{solution_text}
use Rattle.pb_words.specs.DecodeWords.{as_decode_words}
use Rattle.pb_suite.specs.DecodeSpec.{decode_spec, IsAnswered}
use Rattle.pb_suite.specs.Seen.{seen_from}
use Rattle.pb_suite.specs.inner.Saying.{EndsSaying}
use Rattle.pb_suite.proofs.Endings.{bare_memory}
use Rattle.pb_suite.proofs.Going.{stays}
use Rattle.pb_suite.proofs.DecodeSpecs.{solution_due}
use Rattle.pb_suite.proofs.Says.{saying_implements}
use Rattle.pb_suite.proofs.SeenLemmas.{stays_same, told_on}
use Rattle.pb_suite.proofs.SeenSteps.{said_stays, saying_seen, telling_desk}
use Rattle.pb_suite.proofs.commands.decode.say_solution.Goals as goal

pub returns-clause-implements : goal.returns-clause-implements
returns-clause-implements g c = let a = seen_from (g.D.Desk.state c.args.desk.now) (g.D.Desk.state c.args.desk.now) in bare_memory (decode_spec (as_decode_words c.args.asked.now)) a a (stays 2 a)

pub returns-in-Ok-clause-implements : goal.returns-in-Ok-clause-implements
returns-in-Ok-clause-implements g c =
    let w = as_decode_words c.args.asked.now in
    let p = c.args.problem.now in
    let m = c.args.model.now in
    let a = g.D.Desk.state c.args.desk.now in
    let d = g.D.Desk.state c.say.new.desk in
    let line = solution_text p m.values in
    let is_said : c.deref.result.now ≡ line = c.deref.ensures.value ∙ c.in-Ok.ensures.ok ∙ ap (λ (xs : List ℕ). xs ++ line) c.new-text.ensures.items in
    let said = subst (λ (xs : List ℕ). EndsSaying xs a d c.say.result) is_said c.say.ensures in
    let answered = told_on a a d (λ t. IsAnswered t.shelf w p m) (said_stays line a d c.say.result said).kept c.requires.answered in
    saying_implements (decode_spec w) line (seen_from d a) (seen_from d d) (telling_desk a d (g.met.D.Desk.steady_tells c.args.desk.now)) (solution_due w p m (seen_from d a) answered c.requires.solution) c.say.result (saying_seen line a d c.say.result said)

pub returns-clause-stays : goal.returns-clause-stays
returns-clause-stays g c = stays_same (g.D.Desk.state c.args.desk.now)

pub returns-in-Ok-clause-stays : goal.returns-in-Ok-clause-stays
returns-in-Ok-clause-stays g c = said_stays _ _ _ _ c.say.ensures
