use Rattle.pb_steps.specs.declared.denied.Denied.TheVariants.{ClausesLeft}
use Rattle.pb_check.specs.Turns.{at_end}
use Rattle.pb_check.proofs.Keeping.{end_keeps, left_keeps}
use Rattle.pb_check.proofs.Takes.{clause_stops, end_asks}
use Rattle.pb_check.proofs.Readers.{clause_ready}
use Rattle.pb_check.proofs.taking.Outputs.end_steps.Goals as goal

pub returns-in-Ok-None-clause-keeps : goal.returns-in-Ok-None-clause-keeps
returns-in-Ok-None-clause-keeps g c =
    end_keeps _ c.args.self.now.cnf c.next_clause.new.self (g.D.Desk.state c.args.desk.now) (g.D.Desk.state c.next_clause.new.desk) c.in-Ok-None.field-0-is (c.in-Ok-None.ensures.next c.requires.ready.fine) c.args.self.now.kept

pub returns-in-Ok-Some-clause-keeps : goal.returns-in-Ok-Some-clause-keeps
returns-in-Ok-Some-clause-keeps g c =
    left_keeps ClausesLeft _ c.in-Ok-Some.field-0-0 c.args.self.now.cnf c.next_clause.new.self (g.D.Desk.state c.args.desk.now) (g.D.Desk.state c.next_clause.new.desk) c.in-Ok-Some.field-0-is (c.in-Ok-Some.ensures.next c.requires.ready.fine) c.args.self.now.kept

pub returns-clause-stopped : goal.returns-clause-stopped
returns-clause-stopped g c =
    clause_stops c.of_cnf.result c.in-Err.fault c.args.self.now.cnf c.next_clause.new.self (λ x cs next. at_end x.number cs next) (g.D.Desk.state c.args.desk.now) (g.D.Desk.state c.next_clause.new.desk) c.of_cnf.ensures.value (end_asks c.args.self.now.cnf) (c.in-Err.ensures.stopped c.requires.ready.fine)

pub returns-in-Ok-None-clause-ready : goal.returns-in-Ok-None-clause-ready
returns-in-Ok-None-clause-ready g c =
    clause_ready _ c.args.self.now.cnf c.next_clause.new.self (g.D.Desk.state c.args.desk.now) (g.D.Desk.state c.next_clause.new.desk) c.in-Ok-None.ensures.slot c.in-Ok-None.ensures.fine (c.in-Ok-None.ensures.next c.requires.ready.fine) c.requires.ready

pub returns-in-Ok-Some-clause-ready : goal.returns-in-Ok-Some-clause-ready
returns-in-Ok-Some-clause-ready g c =
    clause_ready _ c.args.self.now.cnf c.next_clause.new.self (g.D.Desk.state c.args.desk.now) (g.D.Desk.state c.next_clause.new.desk) c.in-Ok-Some.ensures.slot c.in-Ok-Some.ensures.fine (c.in-Ok-Some.ensures.next c.requires.ready.fine) c.requires.ready
