use Rattle.std.proofs.Common.{Err, ap, sym, subst}
use Rattle.pb_suite.specs.inner.Refuting.{EndsFollowing}
use Rattle.pb_suite.specs.inner.Refuting.EndsFollowing.{not_opened, said, stopped}
use Rattle.pb_suite.proofs.commands.refute.check_refutation.Goals as goal

pub returns-in-Err : goal.returns-in-Err
returns-in-Err g c = not_opened c.in-Err.ensures.failed c.in-Err.ensures.steady

pub returns-in-Err-refute : goal.returns-in-Err-refute
returns-in-Err-refute g c =
    let a = g.D.Desk.state c.args.desk.now in
    let b = g.D.Desk.state c.«open».new.self in
    let d = g.D.Desk.state c.refute.new.desk in
    subst (EndsFollowing c.args.vars c.args.clauses c.args.lrat.now c.args.line.now a d) (sym c.lrat_refusal.ensures)
    (stopped b c.in-Ok.ensures.ok c.in-Ok.ensures.found c.in-Err-refute.fault c.in-Err-refute.ensures.stopped (λ steady is. c.in-Err-refute.ensures.steady steady (ap Err is)))

pub returns-in-Ok-refute : goal.returns-in-Ok-refute
returns-in-Ok-refute g c =
    let b = g.D.Desk.state c.«open».new.self in
    let d = g.D.Desk.state c.refute.new.desk in
    said b d c.say.result c.in-Ok.ensures.ok c.in-Ok.ensures.found c.in-Ok-refute.ensures.refuted (g.met.D.Desk.steady_tells c.refute.new.desk) c.say.ensures
