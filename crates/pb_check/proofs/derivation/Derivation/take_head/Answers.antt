use Rattle.std.proofs.Common.{refl}
use Rattle.pb_check.specs.Turns.{Task, Clauses}
use Rattle.pb_check.specs.Turns.Stage.{head_wanted}
use Rattle.pb_check.proofs.Places.{due_stops, head_leads, head_stops}
use Rattle.pb_check.proofs.derivation.Derivation.take_head.Goals as goal

pub returns-in-Head-clause-leads : goal.returns-in-Head-clause-leads
returns-in-Head-clause-leads g c = head_leads c.in-Ok.step c.args.self.now.lines c.due_step.new.self.lines _ _ c.in-Head.is c.in-Ok.ensures.next

pub returns-clause-stopped : goal.returns-clause-stopped
returns-clause-stopped g c = head_stops c.misplaced.result c.in-Ok.step c.args.self.now.lines c.due_step.new.self.lines _ _ c.misplaced.ensures c.in-Ok.ensures.said.said c.in_default.not-Head c.in-Ok.ensures.next

pub returns-in-Err-clause-stopped : goal.returns-in-Err-clause-stopped
returns-in-Err-clause-stopped g c =
    due_stops (Task × Clauses) c.in-Err.fault head_wanted (λ x. x.0) (λ x. x.1) c.args.self.now.lines c.due_step.new.self.lines (g.D.Desk.state c.args.desk.now) (g.D.Desk.state c.due_step.new.desk) (λ n. refl) c.in-Err.ensures.stopped
