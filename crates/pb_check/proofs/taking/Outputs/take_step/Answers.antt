use Rattle.std.proofs.Common.{◌≡◌, None, refl, sym, subst}
use Rattle.pb_desk.proofs.ReadLemmas.{reads_begin}
use Rattle.pb_steps.specs.declared.step.Step.{Step}
use Rattle.pb_steps.specs.declared.step.Step.TheVariants.{Head, Out, End}
use Rattle.pb_check.specs.declared.taking.Taken.TheVariants.{On}
use Rattle.pb_check.specs.Turns.Stage.{at_steps}
use Rattle.pb_check.specs.Turns.{Task, at_out, at_end, turn_by}
use Rattle.pb_check.specs.inner.Phases.{clauses_of, TurnGives}
use Rattle.pb_check.proofs.StepRuns.{clause_unread, misplaced_step}
use Rattle.pb_check.proofs.Keeping.{rule_keeps}
use Rattle.pb_check.proofs.KeepingRuns.{judged_not_last}
use Rattle.pb_check.proofs.Takes.{rule_given}
use Rattle.pb_check.proofs.taking.Outputs.take_step.Goals as goal

pub returns-in-Blank-clause-gives : goal.returns-in-Blank-clause-gives
returns-in-Blank-clause-gives g c =
    let r = c.args.self.now.cnf in
    reads_begin r.lines.slot r.lines.ahead (g.D.Desk.state c.args.desk.now)
    (λ text rest. (task : Task) → task.vars ≡ r.vars → TurnGives On task c.args.lines.now.number (turn_by task (at_steps c.args.db.now) (clauses_of r text) c.args.lines.now.number c.args.lines.now.line c.args.step.now) c.args.db.now (clauses_of r rest)) c.requires.ready.knows
    (λ text task vars. subst (λ (s : Step). TurnGives On task c.args.lines.now.number (turn_by task (at_steps c.args.db.now) (clauses_of r text) c.args.lines.now.number c.args.lines.now.line s) c.args.db.now (clauses_of r text)) (sym c.in-Blank.is) (λ rows a w. w))

pub returns-in-Head-clause-stopped : goal.returns-in-Head-clause-stopped
returns-in-Head-clause-stopped g c =
    misplaced_step c.args.step.now Head c.misplaced.result c.args.self.now.cnf c.args.db.now c.args.lines.now (g.D.Desk.state c.args.desk.now) c.requires.ready.knows c.in-Head.is c.misplaced.ensures (λ x text. refl)

pub returns-in-Loaded-clause-stopped : goal.returns-in-Loaded-clause-stopped
returns-in-Loaded-clause-stopped g c =
    misplaced_step c.args.step.now _ c.misplaced-in-Loaded.result c.args.self.now.cnf c.args.db.now c.args.lines.now (g.D.Desk.state c.args.desk.now) c.requires.ready.knows c.in-Loaded.is c.misplaced-in-Loaded.ensures (λ x text. refl)

pub returns-in-Out-clause-stopped : goal.returns-in-Out-clause-stopped
returns-in-Out-clause-stopped g c =
    clause_unread c.put_out.result c.args.step.now (Out c.in-Out.id) c.args.self.now.cnf c.put_out.new.self.cnf c.args.db.now c.args.lines.now (g.D.Desk.state c.args.desk.now) (g.D.Desk.state c.put_out.new.desk) (λ x cs next. at_out c.args.db.now c.in-Out.id cs next) c.in-Out.is (λ x text answer w. w)
    c.put_out.ensures.stopped

pub returns-in-End-clause-stopped : goal.returns-in-End-clause-stopped
returns-in-End-clause-stopped g c =
    clause_unread c.end_steps.result c.args.step.now End c.args.self.now.cnf c.end_steps.new.self.cnf c.args.db.now c.args.lines.now (g.D.Desk.state c.args.desk.now) (g.D.Desk.state c.end_steps.new.desk) (λ x cs next. at_end x.number cs next) c.in-End.is (λ x text answer w. w)
    c.end_steps.ensures.stopped

pub returns-in-Ok-clause-gives : goal.returns-in-Ok-clause-gives
returns-in-Ok-clause-gives g c =
    let r = c.args.self.now.cnf in
    let n = c.args.lines.now.number in
    let line = c.args.lines.now.line in
    reads_begin r.lines.slot r.lines.ahead (g.D.Desk.state c.args.desk.now)
    (λ text rest. (task : Task) → task.vars ≡ r.vars → TurnGives c.in-Ok.taken task n (turn_by task (at_steps c.args.db.now) (clauses_of r text) n line c.args.step.now) c.judge.new.db (clauses_of r rest)) c.requires.ready.knows
    (λ text task vars. rule_given c.args.step.now c.in-Ok.taken task n line c.args.db.now c.judge.new.db r text c.in_default.not-Blank c.in_default.not-Head c.in_default.not-Loaded c.in_default.not-Out c.in_default.not-End c.in-Ok.ensures)

pub returns-in-Blank-clause-keeps : goal.returns-in-Blank-clause-keeps
returns-in-Blank-clause-keeps g c = rule_keeps On c.args.self.now.kept c.args.self.now.cnf (g.D.Desk.state c.args.desk.now) c.requires.ready.knows (λ e. cc)

pub returns-in-Ok-clause-keeps : goal.returns-in-Ok-clause-keeps
returns-in-Ok-clause-keeps g c =
    rule_keeps c.in-Ok.taken c.args.self.now.kept c.args.self.now.cnf (g.D.Desk.state c.args.desk.now) c.requires.ready.knows (judged_not_last c.args.db.now c.judge.new.db c.args.step.now None c.in-Ok.taken c.in-Ok.ensures)

pub returns-in-Err-clause-stopped : goal.returns-in-Err-clause-stopped
returns-in-Err-clause-stopped g c =
    let r = c.args.self.now.cnf in
    reads_begin r.lines.slot r.lines.ahead (g.D.Desk.state c.args.desk.now) (λ text rest. Unit {0}) c.requires.ready.knows (λ text. tt)
