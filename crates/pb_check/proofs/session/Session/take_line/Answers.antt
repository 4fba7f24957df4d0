use Rattle.std.proofs.Common.{◌∙◌}
use Rattle.pb_check.proofs.KeepingRuns.{got_keeps}
use Rattle.pb_check.proofs.StepRuns.{got_gives, got_stops, line_fault}
use Rattle.pb_check.proofs.Readers.{can_wait, step_ready}
use Rattle.pb_check.proofs.session.Session.take_line.Goals as goal

pub returns-in-Err-clause-stopped : goal.returns-in-Err-clause-stopped
returns-in-Err-clause-stopped g c =
    line_fault c.in-Err.fault c.args.self.now.outputs.cnf c.args.db.now c.args.self.now.derivation.lines c.due_step.new.self.lines (g.D.Desk.state c.args.desk.now) (g.D.Desk.state c.due_step.new.desk) c.in-Err.ensures.slot c.args.self.now.apart c.in-Err.ensures.stopped

pub returns-clause-gives : goal.returns-clause-gives
returns-clause-gives g c =
    got_gives c.take_step.result c.in-Ok.step c.args.self.now.outputs.cnf c.take_step.new.self.cnf c.args.db.now c.take_step.new.db c.args.self.now.derivation.lines c.due_step.new.self.lines _ _ _ c.args.self.now.apart c.in-Ok.ensures.slot c.take_step.ensures.same.slot c.in-Ok.ensures.next c.take_step.ensures.gives

pub returns-clause-stopped : goal.returns-clause-stopped
returns-clause-stopped g c =
    got_stops c.take_step.result c.in-Ok.step c.args.self.now.outputs.cnf c.take_step.new.self.cnf c.args.db.now c.args.self.now.derivation.lines c.due_step.new.self.lines (g.D.Desk.state c.args.desk.now) (g.D.Desk.state c.due_step.new.desk) (g.D.Desk.state c.take_step.new.desk)
    c.in-Ok.ensures.slot c.take_step.ensures.same.slot c.args.self.now.apart c.in-Ok.ensures.next c.take_step.ensures.stopped

pub returns-clause-keeps : goal.returns-clause-keeps
returns-clause-keeps g c =
    got_keeps c.take_step.result c.args.self.now.outputs.kept c.take_step.new.self.kept c.args.self.now.outputs.cnf c.take_step.new.self.cnf c.args.self.now.derivation.lines c.due_step.new.self.lines _ _ _ _ c.args.self.now.apart c.in-Ok.ensures.slot c.take_step.ensures.same.slot c.in-Ok.ensures.next c.take_step.ensures.keeps

pub take_step-requires-clause-ready : goal.take_step-requires-clause-ready
take_step-requires-clause-ready g c =
    let old = c.args.self.now in
    can_wait _ old.outputs.cnf.fault old.outputs.cnf.lines old.derivation.lines c.due_step.new.self.lines (g.D.Desk.state c.args.desk.now) (g.D.Desk.state c.due_step.new.desk) _ old.apart c.in-Ok.ensures.next c.requires.ready.clauses

pub returns-clause-ready : goal.returns-clause-ready
returns-clause-ready g c =
    let old = c.args.self.now in
    step_ready c.take_step.result c.in-Ok.step old.outputs.cnf c.take_step.new.self.cnf c.args.db.now c.take_step.new.db c.due_step.new.self.lines (g.D.Desk.state c.due_step.new.desk) (g.D.Desk.state c.take_step.new.desk) (λ e. old.apart (e ∙ c.in-Ok.ensures.slot)) c.in-Ok.ensures.ready c.take_step.ensures.ready
    c.take_step.ensures.gives
