use Rattle.std.proofs.Common.{◌∙◌, refl, arith}
use Rattle.std.specs.Prelude.{IsNone}
use Rattle.pb_desk.specs.View.{opened}
use Rattle.pb_desk.specs.Desk.{same}
use Rattle.pb_desk.proofs.Steps.{on_err, reads_by_then, then_fails_to_read}
use Rattle.pb_suite.specs.Outputs.{nothing}
use Rattle.pb_suite.specs.inner.Opening.{opened_both}
use Rattle.pb_suite.specs.inner.Opening.StopsOpening.{no_cnf, no_proof}
use Rattle.pb_suite.proofs.Afterwards.{shelf_was}
use Rattle.pb_suite.proofs.Going.{by_opened, goes_reading}
use Rattle.pb_suite.proofs.Opened.{have_both}
use Rattle.pb_suite.proofs.opening.open_both.Goals as goal

pub returns-in_err-open-clause-failed : goal.returns-in_err-open-clause-failed
returns-in_err-open-clause-failed g c = on_err c.from_residual.result (no_cnf c.in_err-open.ensures.failed c.in_err-open.ensures.steady)

pub returns-in_err-open-2-clause-failed : goal.returns-in_err-open-2-clause-failed
returns-in_err-open-2-clause-failed g c =
    let cnf = c.args.cnf.now in
    let proof = c.args.proof.now in
    let a = g.D.Desk.state c.args.desk.now in
    let b = g.D.Desk.state c.«open».new.self in
    let d = g.D.Desk.state c.open-2.new.self in
    let first = c.in_ok-open.ensures.ok in
    let goes = goes_reading 2 nothing (opened 1 cnf) a b (by_opened 2 1 cnf (omega arith)) first in
    on_err c.from_residual-in_err-open-2.result
    (no_proof (then_fails_to_read (opened 1 cnf) same (opened 1 cnf) a b d (λ v. refl) first c.in_err-open-2.ensures.failed)
    (λ steady. shelf_was a b goes (λ shelf. IsNone (shelf proof)) (c.in_err-open-2.ensures.steady (goes.adds.steady ∙ steady))))

pub returns-clause-opened : goal.returns-clause-opened
returns-clause-opened g c =
    let cnf = c.args.cnf.now in
    let proof = c.args.proof.now in
    reads_by_then (opened 1 cnf) (opened 2 proof) (opened_both cnf proof) (g.D.Desk.state c.args.desk.now) (g.D.Desk.state c.«open».new.self) (g.D.Desk.state c.open-2.new.self) (λ v. refl) c.in_ok-open.ensures.ok c.in_ok-open-2.ensures.ok

pub returns-clause-found : goal.returns-clause-found
returns-clause-found g c = λ k.
    have_both c.args.cnf.now c.args.proof.now (g.D.Desk.state c.args.desk.now) (g.D.Desk.state c.«open».new.self) (g.D.Desk.state c.open-2.new.self) c.in_ok-open.ensures.ok.view c.in_ok-open-2.ensures.ok.view
    (c.in_ok-open.ensures.found (c.in_ok-open-2.ensures.ok.kept k)) (c.in_ok-open-2.ensures.found k)
