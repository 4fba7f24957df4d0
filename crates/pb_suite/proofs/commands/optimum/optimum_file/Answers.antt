use Rattle.std.proofs.Common.{Err, None, ◌∙◌, ap, arith, not, refl}
use Rattle.pb_desk.specs.View.{View}
use Rattle.pb_words.specs.OptimumWords.{as_optimum_words}
use Rattle.pb_suite.specs.Denoted.{Denotes}
use Rattle.pb_suite.specs.OptimumSpec.{optimum_spec}
use Rattle.pb_suite.specs.OptimumSpec.StopsOptimum.{unread}
use Rattle.pb_suite.specs.Seen.{seen_from}
use Rattle.pb_suite.specs.inner.Optima.{IsAimedAt}
use Rattle.pb_suite.proofs.Afterwards.{implements_after}
use Rattle.pb_suite.proofs.Going.{goes_fetched, shelf_is_if}
use Rattle.pb_suite.proofs.OptimumSpecs.{aimed, aimless_implements, answered, free_fetched, free_read, no_answer_implements, no_objective, unread_yet}
use Rattle.pb_suite.proofs.Posed.{posed, read_first, unread_ends}
use Rattle.pb_suite.proofs.InTurn.{posed_behind, unread_behind}
use Rattle.pb_suite.proofs.SeenLemmas.{closed_seen, stays_then}
use Rattle.pb_suite.proofs.SeenSteps.{fetched_seen, text_on}
use Rattle.pb_suite.proofs.commands.optimum.optimum_file.Goals as goal

-- a problem's text that is not read
pub returns-in-Err-clause-implements : goal.returns-in-Err-clause-implements
returns-in-Err-clause-implements g c =
    let w = as_optimum_words c.args.asked.now in
    let b = g.D.Desk.state c.read_problem.new.desk in
    let closed = closed_seen (g.D.Desk.state c.args.desk.now) b c.requires.closed in
    unread_ends (optimum_spec w) w.opb _ refl None (λ shelf answer. unread answer) c.in-Err.outcome c.in-Err.ensures.stopped (λ steady is. c.in-Err.ensures.steady steady (ap Err is))
    (λ is. c.in-Err.ensures.unended (ap Err is))
    (λ keeps unended. unread_yet w (seen_from b b)
    (record { cnf = keeps 1 (omega arith) ∙ closed.reading 1; proof = keeps 2 (omega arith) ∙ closed.reading 2; lrat = keeps 3 (omega arith) ∙ closed.reading 3 }) (keeps 4 (omega arith) ∙ closed.reading 4) unended)

-- there is no objective
pub returns-then-is_none-clause-implements : goal.returns-then-is_none-clause-implements
returns-then-is_none-clause-implements g c =
    let w = as_optimum_words c.args.asked.now in
    let p = c.in-Ok.problem in
    let b = g.D.Desk.state c.read_problem.new.desk in
    let read = fetched_seen 0 w.opb (g.D.Desk.state c.args.desk.now) b b c.in-Ok.ensures.read in
    read_first (optimum_spec w) w.opb _ refl None read (seen_from b b) _
    (aimless_implements w p (seen_from b b) (posed (optimum_spec w) w.opb _ refl None read p c.in-Ok.ensures.denotes) (no_objective p.objective (c.is_none.ensures ∙ ap not c.if-is_none.true)))

pub read_answer-requires-clause-free : goal.read_answer-requires-clause-free
read_answer-requires-clause-free g c = ap (λ (v : View). v.reading 4) c.in-Ok.ensures.read.1.view ∙ c.requires.closed.reading 4

-- a solver's text that is not read
pub returns-in-Err-read_answer-clause-implements : goal.returns-in-Err-read_answer-clause-implements
returns-in-Err-read_answer-clause-implements g c =
    let w = as_optimum_words c.args.asked.now in
    let p = c.in-Ok.problem in
    let a = g.D.Desk.state c.args.desk.now in
    let b = g.D.Desk.state c.read_problem.new.desk in
    let d = g.D.Desk.state c.read_answer.new.desk in
    let read = fetched_seen 0 w.opb a b d c.in-Ok.ensures.read in
    let denotes = text_on w.opb (λ text. Denotes None text p) a b d c.in-Err-read_answer.ensures.stays.kept c.in-Ok.ensures.denotes in
    read_first (optimum_spec w) w.opb _ refl None read _ _
    (no_answer_implements w p (seen_from d b) (aimed w p (seen_from d b) (posed (optimum_spec w) w.opb _ refl None read p denotes) (c.is_none.ensures ∙ ap not c.if-is_none.false)) (seen_from d d)
    (free_read w.opb read.0 (seen_from d a) (seen_from d b) (closed_seen a d c.requires.closed) read.1.view)
    c.in-Err-read_answer.outcome c.in-Err-read_answer.ensures.stopped (λ steady is. c.in-Err-read_answer.ensures.steady steady (ap Err is)) (λ is. c.in-Err-read_answer.ensures.unended (ap Err is)))

pub prove_decoded-requires-clause-few : goal.prove_decoded-requires-clause-few
prove_decoded-requires-clause-few g c = c.in-Ok.ensures.few refl

pub prove_decoded-requires-clause-free : goal.prove_decoded-requires-clause-free
prove_decoded-requires-clause-free g c =
    let w = as_optimum_words c.args.asked.now in
    let a = g.D.Desk.state c.args.desk.now in
    let b = g.D.Desk.state c.read_problem.new.desk in
    let d = g.D.Desk.state c.read_answer.new.desk in
    let read = c.in-Ok.ensures.read in
    let more = c.in-Ok-read_answer.ensures.read in
    free_fetched w.model more.0 b d more.1.view (free_read w.opb read.0 a b c.requires.closed read.1.view)

pub prove_decoded-requires-clause-answered : goal.prove_decoded-requires-clause-answered
prove_decoded-requires-clause-answered g c =
    let w = as_optimum_words c.args.asked.now in
    let p = c.in-Ok.problem in
    let m = c.in-Ok-read_answer.model in
    let a = g.D.Desk.state c.args.desk.now in
    let b = g.D.Desk.state c.read_problem.new.desk in
    let d = g.D.Desk.state c.read_answer.new.desk in
    let read = fetched_seen 0 w.opb a b d c.in-Ok.ensures.read in
    let more = fetched_seen 4 w.model b d d c.in-Ok-read_answer.ensures.read in
    let denotes = text_on w.opb (λ text. Denotes None text p) a b d c.in-Ok-read_answer.ensures.stays.kept c.in-Ok.ensures.denotes in
    shelf_is_if (seen_from d b) (seen_from d d) (goes_fetched 5 4 w.model more.0 (seen_from d b) (seen_from d d) (omega arith) more.1) (λ shelf. IsAimedAt shelf w p m)
    (answered w p (seen_from d b) (aimed w p (seen_from d b) (posed (optimum_spec w) w.opb _ refl None read p denotes) (c.is_none.ensures ∙ ap not c.if-is_none.false)) m c.in-Ok-read_answer.ensures.says)

pub returns-clause-implements : goal.returns-clause-implements
returns-clause-implements g c =
    let w = as_optimum_words c.args.asked.now in
    let a = g.D.Desk.state c.args.desk.now in
    let b = g.D.Desk.state c.read_problem.new.desk in
    let d = g.D.Desk.state c.read_answer.new.desk in
    let e = g.D.Desk.state c.prove_decoded.new.desk in
    let more = fetched_seen 4 w.model b d e c.in-Ok-read_answer.ensures.read in
    read_first (optimum_spec w) w.opb _ refl None (fetched_seen 0 w.opb a b e c.in-Ok.ensures.read) _ _
    (implements_after (optimum_spec w) (seen_from e b) (seen_from e d) _ (goes_fetched 5 4 w.model more.0 (seen_from e b) (seen_from e d) (omega arith) more.1) _ c.prove_decoded.ensures.implements)

-- ---- what is opened

pub returns-in-Err-clause-in_turn : goal.returns-in-Err-clause-in_turn
returns-in-Err-clause-in_turn g c =
    let w = as_optimum_words c.args.asked.now in
    let a = g.D.Desk.state c.args.desk.now in
    let b = g.D.Desk.state c.read_problem.new.desk in
    unread_behind w.opb None (seen_from b a) (seen_from b b) _ _ c.in-Err.outcome (closed_seen a b c.requires.closed) c.in-Err.ensures.stopped

pub returns-then-is_none-clause-in_turn : goal.returns-then-is_none-clause-in_turn
returns-then-is_none-clause-in_turn g c =
    let w = as_optimum_words c.args.asked.now in
    let b = g.D.Desk.state c.read_problem.new.desk in
    posed_behind w.opb None (seen_from b (g.D.Desk.state c.args.desk.now)) (seen_from b b) c.in-Ok.problem c.in-Ok.ensures.denotes

pub returns-in-Err-read_answer-clause-in_turn : goal.returns-in-Err-read_answer-clause-in_turn
returns-in-Err-read_answer-clause-in_turn g c =
    let w = as_optimum_words c.args.asked.now in
    let p = c.in-Ok.problem in
    let a = g.D.Desk.state c.args.desk.now in
    let b = g.D.Desk.state c.read_problem.new.desk in
    let d = g.D.Desk.state c.read_answer.new.desk in
    posed_behind w.opb None (seen_from d a) (seen_from d d) p (text_on w.opb (λ text. Denotes None text p) a b d c.in-Err-read_answer.ensures.stays.kept c.in-Ok.ensures.denotes)

pub returns-clause-in_turn : goal.returns-clause-in_turn
returns-clause-in_turn g c =
    let w = as_optimum_words c.args.asked.now in
    let p = c.in-Ok.problem in
    let a = g.D.Desk.state c.args.desk.now in
    let b = g.D.Desk.state c.read_problem.new.desk in
    let e = g.D.Desk.state c.prove_decoded.new.desk in
    posed_behind w.opb None (seen_from e a) (seen_from e e) p
    (text_on w.opb (λ text. Denotes None text p) a b e (λ k. c.in-Ok-read_answer.ensures.stays.kept (c.prove_decoded.ensures.stays.kept k)) c.in-Ok.ensures.denotes)

-- ---- what stays

pub returns-in-Err-read_answer-clause-stays : goal.returns-in-Err-read_answer-clause-stays
returns-in-Err-read_answer-clause-stays g c =
    let b = g.D.Desk.state c.read_problem.new.desk in
    let d = g.D.Desk.state c.read_answer.new.desk in
    stays_then (g.D.Desk.state c.args.desk.now) b d c.in-Ok.ensures.stays c.in-Err-read_answer.ensures.stays

pub returns-clause-stays : goal.returns-clause-stays
returns-clause-stays g c =
    let a = g.D.Desk.state c.args.desk.now in
    let b = g.D.Desk.state c.read_problem.new.desk in
    let d = g.D.Desk.state c.read_answer.new.desk in
    let e = g.D.Desk.state c.prove_decoded.new.desk in
    stays_then a d e (stays_then a b d c.in-Ok.ensures.stays c.in-Ok-read_answer.ensures.stays) c.prove_decoded.ensures.stays
