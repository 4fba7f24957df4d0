use Rattle.std.proofs.Common.{Err, Ok, ap, codes, refl, sym, subst}
use Rattle.pb_desk.specs.TwoSlots.{TakesBoth}
use Rattle.pb_check.specs.declared.verdict.Verdict.{Verdict}
use Rattle.pb_check.specs.declared.verdict.Verdict.TheVariants.{Accepted, Rejected}
use Rattle.pb_check.specs.Walk.{Walk}
use Rattle.pb_words.specs.CheckWords.{as_check_words}
use Rattle.pb_suite.specs.Implementing.{Implements}
use Rattle.pb_suite.specs.CheckSpec.{check_spec}
use Rattle.pb_suite.specs.Seen.{seen_from}
use Rattle.pb_suite.proofs.SeenChecks.{both_seen, both_stays, checking_seen, checking_stays, opened_seen, read_seen}
use Rattle.pb_suite.proofs.SeenLemmas.{closed_seen, stays_then, steady_was}
use Rattle.pb_suite.proofs.SeenSteps.{said_stays, saying_seen, telling_desk}
use Rattle.pb_suite.proofs.CheckSpecs.{accepted_implements, before_implements, check_checks, cnf_is_open, denied_implements, fault_implements, opened_implements, proof_is_open, still_posed}
use Rattle.pb_suite.proofs.InTurn.{before_behind, posed_behind}
use Rattle.pb_suite.proofs.commands.check.check_file.Goals as goal

pub returns-in-Err-clause-implements : goal.returns-in-Err-clause-implements
returns-in-Err-clause-implements g c =
    let w = as_check_words c.args.asked.now in
    let d = g.D.Desk.state c.open_checked.new.desk in
    before_implements (check_checks w) (closed_seen (g.D.Desk.state c.args.desk.now) d c.requires.closed) _ refl (seen_from d d) refl (λ behind is. is) c.in-Err.outcome c.in-Err.ensures.stopped

pub check-requires-clause-cnf_open : goal.check-requires-clause-cnf_open
check-requires-clause-cnf_open g c = cnf_is_open (check_checks (as_check_words c.args.asked.now)) c.requires.closed c.in-Ok.ensures.opened

pub check-requires-clause-proof_open : goal.check-requires-clause-proof_open
check-requires-clause-proof_open g c = proof_is_open (check_checks (as_check_words c.args.asked.now)) c.requires.closed c.in-Ok.ensures.opened

pub returns-clause-implements : goal.returns-clause-implements
returns-clause-implements g c =
    let w = as_check_words c.args.asked.now in
    let p = c.in-Ok.problem in
    let a = g.D.Desk.state c.args.desk.now in
    let d = g.D.Desk.state c.open_checked.new.desk in
    let e = g.D.Desk.state c.check.new.desk in
    let stops = c.in-Err-check.ensures.stopped in
    let opened = opened_seen w p a d e (checking_stays p 1 2 d e c.in-Err-check.fault stops).kept c.in-Ok.ensures.opened in
    subst (Implements (check_spec w) (seen_from e a) (seen_from e e)) (sym c.check_refusal.ensures)
    (fault_implements (check_checks w) (closed_seen a e c.requires.closed) opened (seen_from e e) refl refl (λ behind is. is) c.in-Err-check.fault (checking_seen p 1 2 d e c.in-Err-check.fault stops) c.in-Err-check.ensures.named
    (λ steady is. c.in-Err-check.ensures.steady (steady_was d e steady) (ap Err is)))

pub returns-in-Ok-Rejected-clause-implements : goal.returns-in-Ok-Rejected-clause-implements
returns-in-Ok-Rejected-clause-implements g c =
    let w = as_check_words c.args.asked.now in
    let p = c.in-Ok.problem in
    let a = g.D.Desk.state c.args.desk.now in
    let d = g.D.Desk.state c.open_checked.new.desk in
    let e = g.D.Desk.state c.check.new.desk in
    let takes = subst (λ (v : Verdict). TakesBoth 1 2 (λ x y. Walk p x y (Ok v)) d e) c.in-Ok-Rejected.field-0-is c.in-Ok-Rejected.ensures.verdict in
    denied_implements (check_checks w) (closed_seen a e c.requires.closed) (opened_seen w p a d e takes.reached.kept c.in-Ok.ensures.opened) (seen_from e e) refl refl c.in-Ok-Rejected.line c.in-Ok-Rejected.denied
    (both_seen 1 2 d e e (λ k. k) (λ x y. Walk p x y (Ok (Rejected c.in-Ok-Rejected.line c.in-Ok-Rejected.denied))) takes)

pub returns-in-Ok-Accepted-clause-implements : goal.returns-in-Ok-Accepted-clause-implements
returns-in-Ok-Accepted-clause-implements g c =
    let w = as_check_words c.args.asked.now in
    let p = c.in-Ok.problem in
    let a = g.D.Desk.state c.args.desk.now in
    let d = g.D.Desk.state c.open_checked.new.desk in
    let e = g.D.Desk.state c.check.new.desk in
    let f = g.D.Desk.state c.say.new.desk in
    let line = codes "accepted\n" in
    let kept = (said_stays line e f c.say.result c.say.ensures).kept in
    let takes = subst (λ (v : Verdict). TakesBoth 1 2 (λ x y. Walk p x y (Ok v)) d e) c.in-Ok-Accepted.field-0-is c.in-Ok-Accepted.ensures.verdict in
    let closed = closed_seen a f c.requires.closed in
    let opened = opened_seen w p a d f (λ k. takes.reached.kept (kept k)) c.in-Ok.ensures.opened in
    opened_implements (check_checks w) closed opened _ _
    (accepted_implements w p (seen_from f d) (seen_from f e) refl (still_posed (check_checks w) closed opened refl) (opened.found refl) (seen_from f f) (telling_desk e f (g.met.D.Desk.steady_tells c.check.new.desk))
    (both_seen 1 2 d e f kept (λ x y. Walk p x y (Ok Accepted)) takes) c.say.result (saying_seen line e f c.say.result c.say.ensures))

-- ---- what is opened

pub returns-in-Err-clause-in_turn : goal.returns-in-Err-clause-in_turn
returns-in-Err-clause-in_turn g c =
    let w = as_check_words c.args.asked.now in
    let a = g.D.Desk.state c.args.desk.now in
    let d = g.D.Desk.state c.open_checked.new.desk in
    before_behind w (seen_from d a) (seen_from d d) refl c.in-Err.outcome (closed_seen a d c.requires.closed) c.in-Err.ensures.stopped

pub returns-clause-in_turn : goal.returns-clause-in_turn
returns-clause-in_turn g c =
    let w = as_check_words c.args.asked.now in
    let p = c.in-Ok.problem in
    let a = g.D.Desk.state c.args.desk.now in
    let d = g.D.Desk.state c.open_checked.new.desk in
    let e = g.D.Desk.state c.check.new.desk in
    posed_behind w.opb w.bound (seen_from e a) (seen_from e e) p (read_seen w p a d e (checking_stays p 1 2 d e c.in-Err-check.fault c.in-Err-check.ensures.stopped).kept c.in-Ok.ensures.opened)

pub returns-in-Ok-Rejected-clause-in_turn : goal.returns-in-Ok-Rejected-clause-in_turn
returns-in-Ok-Rejected-clause-in_turn g c =
    let w = as_check_words c.args.asked.now in
    let p = c.in-Ok.problem in
    let a = g.D.Desk.state c.args.desk.now in
    let d = g.D.Desk.state c.open_checked.new.desk in
    let e = g.D.Desk.state c.check.new.desk in
    posed_behind w.opb w.bound (seen_from e a) (seen_from e e) p (read_seen w p a d e c.in-Ok-Rejected.ensures.verdict.reached.kept c.in-Ok.ensures.opened)

pub returns-in-Ok-Accepted-clause-in_turn : goal.returns-in-Ok-Accepted-clause-in_turn
returns-in-Ok-Accepted-clause-in_turn g c =
    let w = as_check_words c.args.asked.now in
    let p = c.in-Ok.problem in
    let a = g.D.Desk.state c.args.desk.now in
    let d = g.D.Desk.state c.open_checked.new.desk in
    let e = g.D.Desk.state c.check.new.desk in
    let f = g.D.Desk.state c.say.new.desk in
    let kept = (said_stays (codes "accepted\n") e f c.say.result c.say.ensures).kept in
    posed_behind w.opb w.bound (seen_from f a) (seen_from f f) p (read_seen w p a d f (λ k. c.in-Ok-Accepted.ensures.verdict.reached.kept (kept k)) c.in-Ok.ensures.opened)

-- ---- what stays

pub returns-clause-stays : goal.returns-clause-stays
returns-clause-stays g c =
    let d = g.D.Desk.state c.open_checked.new.desk in
    let e = g.D.Desk.state c.check.new.desk in
    stays_then (g.D.Desk.state c.args.desk.now) d e c.in-Ok.ensures.stays (checking_stays c.in-Ok.problem 1 2 d e c.in-Err-check.fault c.in-Err-check.ensures.stopped)

pub returns-in-Ok-Rejected-clause-stays : goal.returns-in-Ok-Rejected-clause-stays
returns-in-Ok-Rejected-clause-stays g c =
    let d = g.D.Desk.state c.open_checked.new.desk in
    let e = g.D.Desk.state c.check.new.desk in
    stays_then (g.D.Desk.state c.args.desk.now) d e c.in-Ok.ensures.stays (both_stays 1 2 d e _ c.in-Ok-Rejected.ensures.verdict)

pub returns-in-Ok-Accepted-clause-stays : goal.returns-in-Ok-Accepted-clause-stays
returns-in-Ok-Accepted-clause-stays g c =
    let d = g.D.Desk.state c.open_checked.new.desk in
    let e = g.D.Desk.state c.check.new.desk in
    let f = g.D.Desk.state c.say.new.desk in
    stays_then (g.D.Desk.state c.args.desk.now) d f c.in-Ok.ensures.stays
    (stays_then d e f (both_stays 1 2 d e _ c.in-Ok-Accepted.ensures.verdict) (said_stays (codes "accepted\n") e f c.say.result c.say.ensures))
