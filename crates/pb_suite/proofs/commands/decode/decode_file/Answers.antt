use Rattle.std.proofs.Common.{Err, ◌∙◌, ap, inl, refl, arith}
use Rattle.pb_desk.specs.View.{View}
use Rattle.pb_words.specs.DecodeWords.{as_decode_words}
use Rattle.pb_suite.specs.CommandSpec.{taken_in, IsUnended}
use Rattle.pb_suite.specs.DecodeSpec.{decode_spec}
use Rattle.pb_suite.specs.DecodeSpec.StopsDecode.{unread}
use Rattle.pb_suite.proofs.Afterwards.{implements_after}
use Rattle.pb_suite.proofs.Going.{goes_fetched}
use Rattle.pb_suite.proofs.DecodeSpecs.{answered_by, answered_later, no_answer_implements}
use Rattle.pb_suite.proofs.Posed.{posed, read_first, unread_ends}
use Rattle.pb_suite.specs.Denoted.{Denotes}
use Rattle.pb_suite.specs.Seen.{seen_from}
use Rattle.pb_suite.proofs.SeenLemmas.{closed_seen, reading_seen, stays_then}
use Rattle.pb_suite.proofs.SeenSteps.{fetched_seen, text_on}
use Rattle.pb_suite.proofs.Takings.{taken-closed}
use Rattle.pb_suite.proofs.Texts.{told_more}
use Rattle.pb_suite.proofs.InTurn.{posed_behind, unread_behind}
use Rattle.pb_suite.proofs.commands.decode.decode_file.Goals as goal

-- a problem's text that is not read
pub returns-in-Err-clause-implements : goal.returns-in-Err-clause-implements
returns-in-Err-clause-implements g c =
    let w = as_decode_words c.args.asked.now in
    let b = seen_from (g.D.Desk.state c.read_problem.new.desk) (g.D.Desk.state c.read_problem.new.desk) in
    let closed = reading_seen 1 (g.D.Desk.state c.args.desk.now) (g.D.Desk.state c.read_problem.new.desk) (c.requires.closed.reading 1) in
    unread_ends (decode_spec w) w.opb _ refl w.bound (λ shelf answer. unread answer) c.in-Err.outcome c.in-Err.ensures.stopped (λ steady is. c.in-Err.ensures.steady steady (ap Err is))
    (λ is. c.in-Err.ensures.unended (ap Err is))
    (λ keeps unended. told_more b (λ t. IsUnended 0 w.opb (taken_in b.view t) b.ended) (λ t. (decode_spec w).leaves_open t.shelf (taken_in b.view t) b.ended) (λ t more. inl (more, taken-closed b.view t 1 w.model (keeps 1 (omega arith) ∙ closed))) unended)

pub read_answer-requires-clause-free : goal.read_answer-requires-clause-free
read_answer-requires-clause-free g c = ap (λ (v : View). v.reading 1) c.in-Ok.ensures.read.1.view ∙ c.requires.closed.reading 1

-- a solver's text that is not read
pub returns-in-Err-read_answer-clause-implements : goal.returns-in-Err-read_answer-clause-implements
returns-in-Err-read_answer-clause-implements g c =
    let w = as_decode_words c.args.asked.now in
    let p = c.in-Ok.problem in
    let a = g.D.Desk.state c.args.desk.now in
    let b = g.D.Desk.state c.read_problem.new.desk in
    let d = g.D.Desk.state c.read_answer.new.desk in
    let read = fetched_seen 0 w.opb a b d c.in-Ok.ensures.read in
    let denotes = text_on w.opb (λ text. Denotes w.bound text p) a b d c.in-Err-read_answer.ensures.stays.kept c.in-Ok.ensures.denotes in
    read_first (decode_spec w) w.opb _ refl w.bound read _ _
    (no_answer_implements w p _ _ (posed (decode_spec w) w.opb _ refl w.bound read p denotes) c.in-Err-read_answer.outcome c.in-Err-read_answer.ensures.stopped (λ steady is. c.in-Err-read_answer.ensures.steady steady (ap Err is)) (λ is. c.in-Err-read_answer.ensures.unended (ap Err is)))

pub say_decoded-requires-clause-answered : goal.say_decoded-requires-clause-answered
say_decoded-requires-clause-answered g c =
    let w = as_decode_words c.args.asked.now in
    let p = c.in-Ok.problem in
    let m = c.in-Ok-read_answer.model in
    let b = g.D.Desk.state c.read_problem.new.desk in
    let d = g.D.Desk.state c.read_answer.new.desk in
    let a = g.D.Desk.state c.args.desk.now in
    let more = fetched_seen 1 w.model b d d c.in-Ok-read_answer.ensures.read in
    let read = fetched_seen 0 w.opb a b d c.in-Ok.ensures.read in
    let denotes = text_on w.opb (λ text. Denotes w.bound text p) a b d c.in-Ok-read_answer.ensures.stays.kept c.in-Ok.ensures.denotes in
    answered_later w p m (seen_from d b) (seen_from d d) (goes_fetched 2 1 w.model more.0 (seen_from d b) (seen_from d d) (omega arith) more.1)
    (answered_by w p m (seen_from d b) (posed (decode_spec w) w.opb _ refl w.bound read p denotes) c.in-Ok-read_answer.ensures.says)

pub returns-clause-implements : goal.returns-clause-implements
returns-clause-implements g c =
    let w = as_decode_words c.args.asked.now in
    let b = g.D.Desk.state c.read_problem.new.desk in
    let d = g.D.Desk.state c.read_answer.new.desk in
    let a = g.D.Desk.state c.args.desk.now in
    let e = g.D.Desk.state c.say_decoded.new.desk in
    let more = fetched_seen 1 w.model b d e c.in-Ok-read_answer.ensures.read in
    read_first (decode_spec w) w.opb _ refl w.bound (fetched_seen 0 w.opb a b e c.in-Ok.ensures.read) _ _
    (implements_after (decode_spec w) (seen_from e b) (seen_from e d) _ (goes_fetched 2 1 w.model more.0 (seen_from e b) (seen_from e d) (omega arith) more.1) _ c.say_decoded.ensures.implements)

-- ---- what is opened

pub returns-in-Err-clause-in_turn : goal.returns-in-Err-clause-in_turn
returns-in-Err-clause-in_turn g c =
    let w = as_decode_words c.args.asked.now in
    let b = g.D.Desk.state c.read_problem.new.desk in
    unread_behind w.opb w.bound (seen_from b (g.D.Desk.state c.args.desk.now)) (seen_from b b) _ _ c.in-Err.outcome (closed_seen (g.D.Desk.state c.args.desk.now) b c.requires.closed) c.in-Err.ensures.stopped

pub returns-in-Err-read_answer-clause-in_turn : goal.returns-in-Err-read_answer-clause-in_turn
returns-in-Err-read_answer-clause-in_turn g c =
    let w = as_decode_words c.args.asked.now in
    let a = g.D.Desk.state c.args.desk.now in
    let b = g.D.Desk.state c.read_problem.new.desk in
    let d = g.D.Desk.state c.read_answer.new.desk in
    posed_behind w.opb w.bound (seen_from d a) (seen_from d d) c.in-Ok.problem (text_on w.opb (λ text. Denotes w.bound text c.in-Ok.problem) a b d c.in-Err-read_answer.ensures.stays.kept c.in-Ok.ensures.denotes)

pub returns-clause-in_turn : goal.returns-clause-in_turn
returns-clause-in_turn g c =
    let w = as_decode_words c.args.asked.now in
    let a = g.D.Desk.state c.args.desk.now in
    let b = g.D.Desk.state c.read_problem.new.desk in
    let e = g.D.Desk.state c.say_decoded.new.desk in
    posed_behind w.opb w.bound (seen_from e a) (seen_from e e) c.in-Ok.problem
    (text_on w.opb (λ text. Denotes w.bound text c.in-Ok.problem) a b e (λ k. c.in-Ok-read_answer.ensures.stays.kept (c.say_decoded.ensures.stays.kept k)) c.in-Ok.ensures.denotes)

-- ---- what stays

pub returns-in-Err-read_answer-clause-stays : goal.returns-in-Err-read_answer-clause-stays
returns-in-Err-read_answer-clause-stays g c = stays_then (g.D.Desk.state c.args.desk.now) (g.D.Desk.state c.read_problem.new.desk) (g.D.Desk.state c.read_answer.new.desk) c.in-Ok.ensures.stays c.in-Err-read_answer.ensures.stays

pub returns-clause-stays : goal.returns-clause-stays
returns-clause-stays g c =
    let b = g.D.Desk.state c.read_problem.new.desk in
    let d = g.D.Desk.state c.read_answer.new.desk in
    let e = g.D.Desk.state c.say_decoded.new.desk in
    stays_then (g.D.Desk.state c.args.desk.now) b e c.in-Ok.ensures.stays (stays_then b d e c.in-Ok-read_answer.ensures.stays c.say_decoded.ensures.stays)
