use Rattle.std.proofs.Common.{arith, codes, refl}
use Rattle.pb_words.specs.RefuteWords.{as_refute_words}
use Rattle.pb_suite.specs.RefuteSpec.{refute_spec}
use Rattle.pb_suite.proofs.CheckSpecs.{anything, before_implements, closed_behind, cnf_is_open, opened_implements, proof_is_open, still_posed}
use Rattle.pb_suite.proofs.Endings.{always}
use Rattle.pb_suite.specs.Seen.{seen_from}
use Rattle.pb_suite.proofs.SeenChecks.{opened_seen, read_seen, refuting_seen, refuting_stays}
use Rattle.pb_suite.proofs.SeenLemmas.{closed_seen, stays_then}
use Rattle.pb_suite.proofs.RefuteSpecs.{refutation, refuting_implements, unfollowed}
use Rattle.pb_suite.proofs.InTurn.{before_behind, posed_behind}
use Rattle.pb_suite.proofs.commands.refute.refute_file.Goals as goal

pub returns-in-Err-clause-implements : goal.returns-in-Err-clause-implements
returns-in-Err-clause-implements g c =
    let w = as_refute_words c.args.asked.now in
    let d = g.D.Desk.state c.open_checked.new.desk in
    before_implements (refutation w).checks (closed_seen (g.D.Desk.state c.args.desk.now) d c.requires.closed) _ refl (seen_from d d) refl
    (λ behind is. unfollowed w (codes "refuted\n") anything (refute_spec w) (refutation w) (seen_from d d) (behind 3 (omega arith)) (always (seen_from d d) (λ t. anything t.shelf) (λ t. tt)) is) c.in-Err.outcome c.in-Err.ensures.stopped

pub refute_opened-requires-clause-cnf_open : goal.refute_opened-requires-clause-cnf_open
refute_opened-requires-clause-cnf_open g c = cnf_is_open (refutation (as_refute_words c.args.asked.now)).checks c.requires.closed c.in-Ok.ensures.opened

pub refute_opened-requires-clause-proof_open : goal.refute_opened-requires-clause-proof_open
refute_opened-requires-clause-proof_open g c = proof_is_open (refutation (as_refute_words c.args.asked.now)).checks c.requires.closed c.in-Ok.ensures.opened

pub refute_opened-requires-clause-cnf_begun : goal.refute_opened-requires-clause-cnf_begun
refute_opened-requires-clause-cnf_begun g c = c.in-Ok.ensures.opened.cnf_begun

pub refute_opened-requires-clause-proof_begun : goal.refute_opened-requires-clause-proof_begun
refute_opened-requires-clause-proof_begun g c = c.in-Ok.ensures.opened.proof_begun

pub refute_opened-requires-clause-free : goal.refute_opened-requires-clause-free
refute_opened-requires-clause-free g c = closed_behind (refutation (as_refute_words c.args.asked.now)).checks c.requires.closed c.in-Ok.ensures.opened 3 (omega arith)

pub returns-clause-implements : goal.returns-clause-implements
returns-clause-implements g c =
    let w = as_refute_words c.args.asked.now in
    let d = g.D.Desk.state c.open_checked.new.desk in
    let e = g.D.Desk.state c.refute_opened.new.desk in
    let checks = (refutation w).checks in
    let p = c.in-Ok.problem in
    let a = g.D.Desk.state c.args.desk.now in
    let line = codes "refuted\n" in
    let closed = closed_seen a e c.requires.closed in
    let opened = opened_seen w.checked p a d e (refuting_stays p w.lrat line d e c.refute_opened.result c.refute_opened.ensures).kept c.in-Ok.ensures.opened in
    opened_implements checks closed opened (seen_from e e) _
    (refuting_implements w line anything (refute_spec w) (refutation w) p (seen_from e d) (seen_from e e) refl _ (still_posed checks closed opened refl) (opened.found refl) (always (seen_from e d) (λ t. anything t.shelf) (λ t. tt))
    (cnf_is_open checks closed opened) (proof_is_open checks closed opened) (closed_behind checks closed opened 3 (omega arith)) (refuting_seen p w.lrat line d e c.refute_opened.result c.refute_opened.ensures))

-- ---- what is opened

pub returns-in-Err-clause-in_turn : goal.returns-in-Err-clause-in_turn
returns-in-Err-clause-in_turn g c =
    let w = as_refute_words c.args.asked.now in
    let a = g.D.Desk.state c.args.desk.now in
    let d = g.D.Desk.state c.open_checked.new.desk in
    before_behind w.checked (seen_from d a) (seen_from d d) refl c.in-Err.outcome (closed_seen a d c.requires.closed) c.in-Err.ensures.stopped

pub returns-clause-in_turn : goal.returns-clause-in_turn
returns-clause-in_turn g c =
    let w = as_refute_words c.args.asked.now in
    let p = c.in-Ok.problem in
    let a = g.D.Desk.state c.args.desk.now in
    let d = g.D.Desk.state c.open_checked.new.desk in
    let e = g.D.Desk.state c.refute_opened.new.desk in
    posed_behind w.checked.opb w.checked.bound (seen_from e a) (seen_from e e) p
    (read_seen w.checked p a d e (refuting_stays p w.lrat (codes "refuted\n") d e c.refute_opened.result c.refute_opened.ensures).kept c.in-Ok.ensures.opened)

-- ---- what stays

pub returns-clause-stays : goal.returns-clause-stays
returns-clause-stays g c =
    let d = g.D.Desk.state c.open_checked.new.desk in
    let e = g.D.Desk.state c.refute_opened.new.desk in
    stays_then (g.D.Desk.state c.args.desk.now) d e c.in-Ok.ensures.stays
    (refuting_stays c.in-Ok.problem (as_refute_words c.args.asked.now).lrat (codes "refuted\n") d e c.refute_opened.result c.refute_opened.ensures)
