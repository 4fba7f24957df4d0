use Rattle.std.proofs.Common.{List, Option, Ok, ap, subst}
use Rattle.pb_base.specs.declared.literal.Lit.{Lit}
use Rattle.pb_steps.specs.declared.step.Step.TheVariants.{Out}
use Rattle.pb_check.specs.inner.Judging.{IsJudged}
use Rattle.pb_check.proofs.Keeping.{by_taken, keeps_next}
use Rattle.pb_check.proofs.KeepingRuns.{judged_not_last}
use Rattle.pb_check.proofs.Takes.{clause_stops, out_asks, out_given}
use Rattle.pb_check.specs.Turns.{at_out}
use Rattle.pb_check.proofs.Readers.{clause_ready}
use Rattle.pb_check.proofs.taking.Outputs.put_out.Goals as goal

pub returns-in-Ok-keep-clause-gives : goal.returns-in-Ok-keep-clause-gives
returns-in-Ok-keep-clause-gives g c =
    out_given c.in-Ok.next c.in-Ok-judge.taken c.args.self.now.cnf c.next_clause.new.self (g.D.Desk.state c.args.desk.now) (g.D.Desk.state c.next_clause.new.desk) c.args.db.now c.judge.new.db c.args.id
    (c.in-Ok.ensures.next c.requires.ready.fine) c.in-Ok.ensures.count (subst (λ (o : Option (List Lit)). IsJudged c.args.db.now (Out c.args.id) o c.judge.new.db c.in-Ok-judge.taken) c.as_ref.ensures.value c.in-Ok-judge.ensures)

pub returns-in-Ok-keep-clause-keeps : goal.returns-in-Ok-keep-clause-keeps
returns-in-Ok-keep-clause-keeps g c =
    by_taken c.in-Ok-judge.taken c.args.self.now.kept c.keep.new.self c.args.self.now.cnf c.next_clause.new.self _ _ (judged_not_last c.args.db.now c.judge.new.db (Out c.args.id) _ c.in-Ok-judge.taken c.in-Ok-judge.ensures)
    (keeps_next c.in-Ok.next c.args.self.now.kept c.keep.new.self c.args.self.now.cnf c.next_clause.new.self (g.D.Desk.state c.args.desk.now) (g.D.Desk.state c.next_clause.new.desk) (c.in-Ok.ensures.next c.requires.ready.fine) c.in-Ok.ensures.count (λ is. c.in-Ok.ensures.none (ap Ok is)) c.in-Ok.ensures.vars c.in-Ok-keep.ensures)

pub returns-in-Err-clause-stopped : goal.returns-in-Err-clause-stopped
returns-in-Err-clause-stopped g c =
    clause_stops c.of_cnf.result c.in-Err.fault c.args.self.now.cnf c.next_clause.new.self (λ x cs next. at_out c.args.db.now c.args.id cs next) (g.D.Desk.state c.args.desk.now) (g.D.Desk.state c.next_clause.new.desk) c.of_cnf.ensures.value
    (out_asks c.args.self.now.cnf c.args.db.now c.args.id c.requires.spelled) (c.in-Err.ensures.stopped c.requires.ready.fine)

pub returns-in-Ok-keep-clause-ready : goal.returns-in-Ok-keep-clause-ready
returns-in-Ok-keep-clause-ready g c =
    clause_ready _ c.args.self.now.cnf c.next_clause.new.self (g.D.Desk.state c.args.desk.now) (g.D.Desk.state c.next_clause.new.desk) c.in-Ok.ensures.slot c.in-Ok.ensures.fine (c.in-Ok.ensures.next c.requires.ready.fine) c.requires.ready
