use Rattle.std.proofs.Common.{Err, ◌∙◌, ap, refl}
use Rattle.pb_desk.specs.View.{View}
use Rattle.pb_words.specs.CheckWords.{as_check_words}
use Rattle.pb_suite.specs.Denoted.{Denotes}
use Rattle.pb_suite.specs.Seen.{seen_from}
use Rattle.pb_suite.specs.inner.Opening.{opened_both}
use Rattle.pb_suite.specs.inner.Opening.StopsBefore.{not_opened, not_read}
use Rattle.pb_suite.proofs.SeenChecks.{opening_seen, opening_stays}
use Rattle.pb_suite.proofs.SeenLemmas.{reads_stays, seen_told, stays_then}
use Rattle.pb_suite.proofs.SeenSteps.{fetched_seen, text_on}
use Rattle.pb_suite.proofs.opening.open_checked.Goals as goal

pub returns-in-Err-clause-stopped : goal.returns-in-Err-clause-stopped
returns-in-Err-clause-stopped g c = not_read c.in-Err.outcome c.in-Err.ensures.stopped (λ steady is. c.in-Err.ensures.steady steady (ap Err is)) (λ is. c.in-Err.ensures.unended (ap Err is))

pub open_both-requires-clause-cnf_free : goal.open_both-requires-clause-cnf_free
open_both-requires-clause-cnf_free g c = ap (λ (v : View). v.reading 1) c.in-Ok.ensures.read.1.view ∙ c.requires.closed.reading 1

pub open_both-requires-clause-proof_free : goal.open_both-requires-clause-proof_free
open_both-requires-clause-proof_free g c = ap (λ (v : View). v.reading 2) c.in-Ok.ensures.read.1.view ∙ c.requires.closed.reading 2

pub returns-in-Err-open_both-clause-stopped : goal.returns-in-Err-open_both-clause-stopped
returns-in-Err-open_both-clause-stopped g c =
    let w = as_check_words c.args.asked.now in
    let a = g.D.Desk.state c.args.desk.now in
    let b = g.D.Desk.state c.read_problem.new.desk in
    let d = g.D.Desk.state c.open_both.new.desk in
    let stops = c.in-Err-open_both.ensures.failed in
    not_opened c.in-Ok.problem (seen_from d b)
    (record { fetched = fetched_seen 0 w.opb a b d c.in-Ok.ensures.read; denotes = λ _. text_on w.opb (λ text. Denotes w.bound text c.in-Ok.problem) a b d (opening_stays w.cnf w.proof b d stops).kept c.in-Ok.ensures.denotes })
    (opening_seen w.cnf w.proof b d stops)

pub returns-in-Ok-open_both-clause-opened : goal.returns-in-Ok-open_both-clause-opened
returns-in-Ok-open_both-clause-opened g c = record {
  between = g.D.Desk.state c.read_problem.new.desk;
  read = record { fetched = c.in-Ok.ensures.read; denotes = seen_told (g.D.Desk.state c.args.desk.now) (g.D.Desk.state c.read_problem.new.desk) _ c.in-Ok.ensures.denotes };
  reached = c.in-Ok-open_both.ensures.opened;
  cnf_begun = c.in-Ok-open_both.ensures.cnf_begun;
  proof_begun = c.in-Ok-open_both.ensures.proof_begun;
  found = c.in-Ok-open_both.ensures.found;
}

-- ---- what stays

pub returns-in-Err-open_both-clause-stays : goal.returns-in-Err-open_both-clause-stays
returns-in-Err-open_both-clause-stays g c =
    let w = as_check_words c.args.asked.now in
    let b = g.D.Desk.state c.read_problem.new.desk in
    let d = g.D.Desk.state c.open_both.new.desk in
    stays_then (g.D.Desk.state c.args.desk.now) b d c.in-Ok.ensures.stays (opening_stays w.cnf w.proof b d c.in-Err-open_both.ensures.failed)

pub returns-in-Ok-open_both-clause-stays : goal.returns-in-Ok-open_both-clause-stays
returns-in-Ok-open_both-clause-stays g c =
    let w = as_check_words c.args.asked.now in
    let b = g.D.Desk.state c.read_problem.new.desk in
    let d = g.D.Desk.state c.open_both.new.desk in
    stays_then (g.D.Desk.state c.args.desk.now) b d c.in-Ok.ensures.stays (reads_stays (opened_both w.cnf w.proof) (λ v. refl) b d c.in-Ok-open_both.ensures.opened)
