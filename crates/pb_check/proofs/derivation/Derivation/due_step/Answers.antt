use Rattle.pb_dimacs.specs.Cursors.{rows_left}
use Rattle.pb_check.specs.Walk.{Walks}
use Rattle.pb_check.specs.inner.Calls.{Awaited}
use Rattle.pb_check.proofs.NextLines.{Anywhere, LineComes, next_is, stops_weaker}
use Rattle.pb_check.proofs.Places.{ends_early}
use Rattle.pb_check.proofs.derivation.Derivation.due_step.Goals as goal

pub returns-in-Ok-Some-clause-next : goal.returns-in-Ok-Some-clause-next
returns-in-Ok-Some-clause-next g c = next_is c.args.self.now.lines c.next_step.new.self.lines _ _ c.in-Ok-Some.field-0-is c.in-Ok-Some.ensures.next

pub returns-in-Ok-None-clause-stopped : goal.returns-in-Ok-None-clause-stopped
returns-in-Ok-None-clause-stopped g c =
    ends_early c.end_fault.result c.args.self.now.lines c.next_step.new.self.lines _ _ c.end_fault.ensures (next_is c.args.self.now.lines c.next_step.new.self.lines _ _ c.in-Ok-None.field-0-is c.in-Ok-None.ensures.next)

pub returns-in-Err-clause-stopped : goal.returns-in-Err-clause-stopped
returns-in-Err-clause-stopped g c =
    stops_weaker Anywhere Awaited c.in-Err.fault c.args.self.now.lines c.next_step.new.self.lines (g.D.Desk.state c.args.desk.now) (g.D.Desk.state c.next_step.new.desk) (LineComes c.args.self.now.lines) (λ x text answer. Walks x.0 x.1 x.2 (rows_left c.args.self.now.lines text) answer)
    (λ x. ((x.0, x.1, x.2), λ text answer w. w)) c.in-Err.ensures.stopped
