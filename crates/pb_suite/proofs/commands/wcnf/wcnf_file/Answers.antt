use Rattle.std.proofs.Common.{Err, [], ◌∙◌, ap, inl, refl, subst, sym}
use Rattle.pb_words.specs.WcnfWords.{as_wcnf_words}
use Rattle.pb_suite.specs.Implementing.{Implements}
use Rattle.pb_suite.specs.WcnfSpec.{wcnf_spec}
use Rattle.std.specs.Prelude.{IsTrue}
use Rattle.pb_encode.specs.BoundLines.{words_of}
use Rattle.pb_encode.specs.Encodings.{made}
use Rattle.pb_encode.specs.Weighted.{weighted_text, LacksForWeighted}
use Rattle.pb_suite.specs.Denoted.{Denotes}
use Rattle.pb_suite.specs.Seen.{seen_from}
use Rattle.pb_suite.proofs.SeenLemmas.{reaches_seen, reaches_stays, so_seen, stays_then, writing_seen}
use Rattle.pb_suite.proofs.SeenSteps.{cut_seen, fetched_seen, refused_seen, telling_desk, telling_seen, text_on, told_stays, weighted_stays, weighting_seen}
use Rattle.pb_suite.proofs.Going.{keeps}
use Rattle.pb_suite.proofs.Posed.{goes_on, posed, read_first, unread_ends}
use Rattle.pb_suite.proofs.WcnfSpecs.{summary_implements, unmade_implements}
use Rattle.pb_suite.proofs.commands.wcnf.wcnf_file.Goals as goal

pub returns-in-Err-clause-implements : goal.returns-in-Err-clause-implements
returns-in-Err-clause-implements g c =
    let w = as_wcnf_words c.args.asked.now in
    unread_ends (wcnf_spec w) w.opb [] refl w.bound (λ shelf answer is. inl is) c.in-Err.outcome c.in-Err.ensures.stopped (λ steady is. c.in-Err.ensures.steady steady (ap Err is)) (λ is. c.in-Err.ensures.unended (ap Err is)) (λ keeps unended. unended)

pub returns-clause-implements : goal.returns-clause-implements
returns-clause-implements g c =
    let w = as_wcnf_words c.args.asked.now in
    let p = c.in-Ok.problem in
    let a = g.D.Desk.state c.args.desk.now in
    let b = g.D.Desk.state c.read_problem.new.desk in
    let d = g.D.Desk.state c.weighted.new.desk in
    let o = w.options in
    let failed = c.in-Err-weighted.ensures in
    let before = (weighted_stays o p w.wcnf b d c.in-Err-weighted.fault (λ k is. failed.limit k (ap Err is)) (λ is. failed.write_fault (ap Err is)) (λ is. failed.no_memory (ap Err is))).kept in
    let read = fetched_seen 0 w.opb a b d c.in-Ok.ensures.read in
    let denotes = text_on w.opb (λ text. Denotes w.bound text p) a b d before c.in-Ok.ensures.denotes in
    read_first (wcnf_spec w) w.opb [] refl w.bound read _ _
    (subst (Implements (wcnf_spec w) (seen_from d b) (seen_from d d)) (sym c.outcome_of.ensures)
    (unmade_implements w p (seen_from d b) (posed (wcnf_spec w) w.opb [] refl w.bound read p denotes) (telling_desk b d (g.met.D.Desk.steady_tells c.read_problem.new.desk)) (seen_from d d) c.in-Err-weighted.fault
    (λ k is. refused_seen o p w.wcnf b d k (failed.limit k (ap Err is))) (λ is. cut_seen o p w.wcnf b d (failed.write_fault (ap Err is))) (λ is. weighting_seen o p w.wcnf b d (failed.no_memory (ap Err is)))
    (λ steady is. so_seen b d before (LacksForWeighted o p w.wcnf) (λ s. failed.steady s (ap Err is)) steady)))

pub say_summary-requires-clause-encodable : goal.say_summary-requires-clause-encodable
say_summary-requires-clause-encodable g c = c.in-Ok-weighted.ensures.encodable

pub say_summary-requires-clause-summary : goal.say_summary-requires-clause-summary
say_summary-requires-clause-summary g c = c.in-Ok-weighted.ensures.summary

pub returns-in-Ok-weighted-clause-implements : goal.returns-in-Ok-weighted-clause-implements
returns-in-Ok-weighted-clause-implements g c =
    let w = as_wcnf_words c.args.asked.now in
    let p = c.in-Ok.problem in
    let a = g.D.Desk.state c.args.desk.now in
    let b = g.D.Desk.state c.read_problem.new.desk in
    let d = g.D.Desk.state c.weighted.new.desk in
    let e = g.D.Desk.state c.say_summary.new.desk in
    let line = words_of w.options p in
    let before : IsTrue e.keeps → IsTrue b.keeps = λ k. sym c.in-Ok-weighted.ensures.made.keeps ∙ (told_stays line d e c.say_summary.result c.say_summary.ensures).kept k in
    let read = fetched_seen 0 w.opb a b e c.in-Ok.ensures.read in
    let denotes = text_on w.opb (λ text. Denotes w.bound text p) a b e before c.in-Ok.ensures.denotes in
    let made_file = reaches_seen (made 0 w.wcnf (weighted_text w.options p)) (λ v. refl) b d e c.in-Ok-weighted.ensures.made in
    read_first (wcnf_spec w) w.opb [] refl w.bound read _ _
    (summary_implements w p (seen_from e b) (posed (wcnf_spec w) w.opb [] refl w.bound read p denotes) (telling_desk b e (g.met.D.Desk.steady_tells c.read_problem.new.desk)) (seen_from e d) (seen_from e e)
    c.in-Ok-weighted.ensures.encodable made_file (λ slot. keeps _ _ (goes_on (wcnf_spec w) w.opb [] refl w.bound read) slot ∙ writing_seen slot a e (c.requires.closed.writing slot)) _ (telling_seen line d e c.say_summary.result c.say_summary.ensures))

-- ---- what stays

pub returns-clause-stays : goal.returns-clause-stays
returns-clause-stays g c =
    let w = as_wcnf_words c.args.asked.now in
    let b = g.D.Desk.state c.read_problem.new.desk in
    let d = g.D.Desk.state c.weighted.new.desk in
    let failed = c.in-Err-weighted.ensures in
    stays_then (g.D.Desk.state c.args.desk.now) b d c.in-Ok.ensures.stays
    (weighted_stays w.options c.in-Ok.problem w.wcnf b d c.in-Err-weighted.fault (λ k is. failed.limit k (ap Err is)) (λ is. failed.write_fault (ap Err is)) (λ is. failed.no_memory (ap Err is)))

pub returns-in-Ok-weighted-clause-stays : goal.returns-in-Ok-weighted-clause-stays
returns-in-Ok-weighted-clause-stays g c =
    let w = as_wcnf_words c.args.asked.now in
    let p = c.in-Ok.problem in
    let b = g.D.Desk.state c.read_problem.new.desk in
    let d = g.D.Desk.state c.weighted.new.desk in
    let e = g.D.Desk.state c.say_summary.new.desk in
    stays_then (g.D.Desk.state c.args.desk.now) b e c.in-Ok.ensures.stays
    (stays_then b d e (reaches_stays (made 0 w.wcnf (weighted_text w.options p)) (λ v. refl) b d c.in-Ok-weighted.ensures.made) (told_stays (words_of w.options p) d e c.say_summary.result c.say_summary.ensures))
