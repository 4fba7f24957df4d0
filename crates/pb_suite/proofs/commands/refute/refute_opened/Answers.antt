use Rattle.std.proofs.Common.{Err, Ok, ◌∙◌, ap, sym, subst}
use Rattle.pb_desk.specs.View.{View}
use Rattle.pb_desk.specs.Desk.{IfKept}
use Rattle.pb_desk.specs.TwoSlots.{TakesBoth}
use Rattle.pb_check.specs.declared.verdict.Verdict.{Verdict}
use Rattle.pb_check.specs.KeptClauses.{IsKept}
use Rattle.pb_check.specs.Walk.{Walk}
use Rattle.pb_suite.specs.inner.Refuting.{EndsRefuting}
use Rattle.pb_suite.specs.inner.Refuting.EndsRefuting.{accepted_then, rejected, unchecked_so}
use Rattle.pb_suite.proofs.commands.refute.refute_opened.Goals as goal

pub returns-in-Err : goal.returns-in-Err
returns-in-Err g c =
    subst (EndsRefuting c.args.problem.now c.args.lrat.now c.args.line.now (g.D.Desk.state c.args.desk.now) (g.D.Desk.state c.check_kept.new.desk)) (sym c.check_refusal.ensures)
    (unchecked_so c.in-Err.fault c.in-Err.ensures.stopped c.in-Err.ensures.named (λ steady is. c.in-Err.ensures.steady steady (ap Err is)))

pub check_refutation-requires-clause-free : goal.check_refutation-requires-clause-free
check_refutation-requires-clause-free g c = ap (λ (v : View). v.reading 3) c.in-Ok.ensures.verdict.reached.view ∙ c.requires.free

pub returns-in-Accepted : goal.returns-in-Accepted
returns-in-Accepted g c =
    let d = g.D.Desk.state c.args.desk.now in
    let e = g.D.Desk.state c.check_kept.new.desk in
    let found = c.in-Ok.found in
    accepted_then e found.1 found.2 c.check_refutation.result
    (subst (λ (v : Verdict). TakesBoth 1 2 (λ x y. Walk c.args.problem.now x y (Ok v)) d e) c.in-Accepted.is c.in-Ok.ensures.verdict)
    (subst (λ (v : Verdict). IfKept d e (λ t. IsKept v (t.left 1) found.1 found.2)) c.in-Accepted.is c.in-Ok.ensures.kept)
    c.check_refutation.ensures

pub returns-in-Rejected : goal.returns-in-Rejected
returns-in-Rejected g c =
    rejected c.in-Rejected.line c.in-Rejected.denied
    (subst (λ (v : Verdict). TakesBoth 1 2 (λ x y. Walk c.args.problem.now x y (Ok v)) (g.D.Desk.state c.args.desk.now) (g.D.Desk.state c.check_kept.new.desk)) c.in-Rejected.is c.in-Ok.ensures.verdict)
