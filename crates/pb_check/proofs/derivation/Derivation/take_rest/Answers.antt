use Rattle.std.proofs.Common.{Option, subst}
use Rattle.std.specs.Prelude.{IfSome}
use Rattle.pb_dimacs.specs.Cursors.{rows_left}
use Rattle.pb_steps.specs.declared.step.Step.{Step}
use Rattle.pb_check.specs.inner.Readers.{IsSaid}
use Rattle.pb_check.proofs.Places.{rest_stops, rest_ends}
use Rattle.pb_check.specs.Turns.{Task, Clauses}
use Rattle.pb_check.specs.Turns.Stage.{ended}
use Rattle.pb_check.specs.Walk.{Walks}
use Rattle.pb_check.proofs.NextLines.{Anywhere, LineComes, stops_weaker, next_is}
use Rattle.pb_check.proofs.derivation.Derivation.take_rest.Goals as goal

pub returns-in-Ok-None-clause-ends : goal.returns-in-Ok-None-clause-ends
returns-in-Ok-None-clause-ends g c = rest_ends c.args.self.now.lines c.next_step.new.self.lines _ _ (next_is c.args.self.now.lines c.next_step.new.self.lines _ _ c.in-Ok-None.field-0-is c.in-Ok-None.ensures.next)

pub returns-in-Ok-Some-clause-stopped : goal.returns-in-Ok-Some-clause-stopped
returns-in-Ok-Some-clause-stopped g c =
    let says = subst (λ (o : Option Step). IfSome o IsSaid) c.in-Ok-Some.field-0-is c.in-Ok-Some.ensures.said in
    rest_stops c.misplaced.result c.in-Ok-Some.field-0-0 c.args.self.now.lines c.next_step.new.self.lines _ _ c.misplaced.ensures says.said (next_is c.args.self.now.lines c.next_step.new.self.lines _ _ c.in-Ok-Some.field-0-is c.in-Ok-Some.ensures.next)

pub returns-clause-stopped : goal.returns-clause-stopped
returns-clause-stopped g c =
    let old = c.args.self.now.lines in
    stops_weaker Anywhere (Task × Clauses) c.in-Err.fault old c.next_step.new.self.lines (g.D.Desk.state c.args.desk.now) (g.D.Desk.state c.next_step.new.desk) (LineComes old) (λ x text answer. Walks x.0 ended x.1 (rows_left old text) answer)
    (λ x. ((x.0, ended, x.1), λ text answer w. w)) c.in-Err.ensures.stopped
