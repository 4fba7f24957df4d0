use Rattle.std.proofs.Common.{refl}
use Rattle.pb_check.specs.Turns.Stage.{count_wanted}
use Rattle.pb_check.specs.inner.Calls.{TaskOf}
use Rattle.pb_check.proofs.Places.{count_leads, count_stops, due_stops, miscounted_stops}
use Rattle.pb_check.proofs.derivation.Derivation.take_count.Goals as goal

pub returns-then-count-loaded-clause-leads : goal.returns-then-count-loaded-clause-leads
returns-then-count-loaded-clause-leads g c = count_leads c.in-Ok.step c.in-Loaded.count c.args.loaded c.args.self.now.lines c.due_step.new.self.lines _ _ c.in-Loaded.is c.if-count-loaded.true c.in-Ok.ensures.next

pub returns-in-Loaded-clause-stopped : goal.returns-in-Loaded-clause-stopped
returns-in-Loaded-clause-stopped g c =
    miscounted_stops c.miscounted.result c.in-Ok.step c.in-Loaded.count c.args.loaded c.args.self.now.lines c.due_step.new.self.lines _ _ c.miscounted.ensures c.in-Loaded.is c.if-count-loaded.false c.in-Ok.ensures.next

pub returns-clause-stopped : goal.returns-clause-stopped
returns-clause-stopped g c = count_stops c.misplaced.result c.in-Ok.step c.args.loaded c.args.self.now.lines c.due_step.new.self.lines _ _ c.misplaced.ensures c.in-Ok.ensures.said.said c.in_default.not-Loaded c.in-Ok.ensures.next

pub returns-in-Err-clause-stopped : goal.returns-in-Err-clause-stopped
returns-in-Err-clause-stopped g c =
    due_stops (TaskOf c.args.loaded) c.in-Err.fault count_wanted (λ x. x.0) (λ x. x.1) c.args.self.now.lines c.due_step.new.self.lines (g.D.Desk.state c.args.desk.now) (g.D.Desk.state c.due_step.new.desk) (λ n. refl) c.in-Err.ensures.stopped
