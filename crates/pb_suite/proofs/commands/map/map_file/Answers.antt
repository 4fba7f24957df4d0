use Rattle.std.proofs.Common.{◌≡◌, ◌∙◌, ◌++◌, ℕ, List, None, Err, [], ap, refl, subst}
use Rattle.pb_model.specs.MapText.{map_text}
use Rattle.pb_words.specs.MapWords.{as_map_words}
use Rattle.pb_suite.specs.MapSpec.{map_spec}
use Rattle.pb_suite.specs.inner.Saying.{EndsSaying}
use Rattle.pb_suite.specs.Denoted.{Denotes}
use Rattle.pb_suite.specs.Seen.{seen_from}
use Rattle.pb_suite.proofs.SeenLemmas.{stays_then}
use Rattle.pb_suite.proofs.SeenSteps.{fetched_seen, said_stays, saying_seen, telling_desk, text_on}
use Rattle.pb_suite.proofs.Endings.{bare_memory}
use Rattle.pb_suite.proofs.Going.{stays}
use Rattle.pb_suite.proofs.MapSpecs.{map_due}
use Rattle.pb_suite.proofs.Posed.{posed, read_first, unread_ends}
use Rattle.pb_suite.proofs.Says.{saying_implements}
use Rattle.pb_suite.proofs.commands.map.map_file.Goals as goal

pub returns-in-Err-clause-implements : goal.returns-in-Err-clause-implements
returns-in-Err-clause-implements g c =
    let w = as_map_words c.args.asked.now in
    unread_ends (map_spec w) w.opb [] refl None (λ shelf answer is. is) c.in-Err.outcome c.in-Err.ensures.stopped (λ steady is. c.in-Err.ensures.steady steady (ap Err is)) (λ is. c.in-Err.ensures.unended (ap Err is)) (λ keeps unended. unended)

pub returns-clause-implements : goal.returns-clause-implements
returns-clause-implements g c =
    let w = as_map_words c.args.asked.now in
    let a = g.D.Desk.state c.args.desk.now in
    let b = g.D.Desk.state c.read_problem.new.desk in
    read_first (map_spec w) w.opb [] refl None (fetched_seen 0 w.opb a b b c.in-Ok.ensures.read) _ _ (bare_memory (map_spec w) (seen_from b b) (seen_from b b) (stays 1 (seen_from b b)))

pub returns-in-Ok-write_map-clause-implements : goal.returns-in-Ok-write_map-clause-implements
returns-in-Ok-write_map-clause-implements g c =
    let w = as_map_words c.args.asked.now in
    let p = c.in-Ok.problem in
    let a = g.D.Desk.state c.args.desk.now in
    let b = g.D.Desk.state c.read_problem.new.desk in
    let d = g.D.Desk.state c.say.new.desk in
    let line = map_text p in
    let is_said : c.deref.result.now ≡ line = c.deref.ensures.value ∙ c.in-Ok-write_map.ensures.ok ∙ ap (λ (xs : List ℕ). xs ++ line) c.new-text.ensures.items in
    let said = subst (λ (xs : List ℕ). EndsSaying xs b d c.say.result) is_said c.say.ensures in
    let read = fetched_seen 0 w.opb a b d c.in-Ok.ensures.read in
    let denotes = text_on w.opb (λ text. Denotes None text p) a b d (said_stays line b d c.say.result said).kept c.in-Ok.ensures.denotes in
    read_first (map_spec w) w.opb [] refl None read _ _
    (saying_implements (map_spec w) line (seen_from d b) (seen_from d d) (telling_desk b d (g.met.D.Desk.steady_tells c.read_problem.new.desk)) (map_due w p (seen_from d b) (posed (map_spec w) w.opb [] refl None read p denotes)) c.say.result
    (saying_seen line b d c.say.result said))

pub returns-in-Ok-write_map-clause-stays : goal.returns-in-Ok-write_map-clause-stays
returns-in-Ok-write_map-clause-stays g c = stays_then (g.D.Desk.state c.args.desk.now) (g.D.Desk.state c.read_problem.new.desk) (g.D.Desk.state c.say.new.desk) c.in-Ok.ensures.stays (said_stays _ _ _ _ c.say.ensures)
