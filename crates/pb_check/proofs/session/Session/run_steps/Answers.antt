use Rattle.std.proofs.Common.{refl, ◌∙◌}
use Rattle.pb_check.specs.declared.taking.Taken.TheVariants as taken
use Rattle.pb_check.specs.inner.Phases.{LineGives}
use Rattle.pb_desk.proofs.BothSlots.{both_begin}
use Rattle.pb_check.proofs.KeepingRuns.{none_kept, keeps_on, keeps_out, keeps_denied}
use Rattle.pb_check.proofs.StepRuns.{runs_on, runs_out, runs_denied, runs_stop}
use Rattle.pb_check.proofs.session.Session.run_steps.Goals as goal

pub steps-init : goal.steps-init
steps-init g c =
    let cnf = c.args.self.now.outputs.cnf in
    let proof = c.args.self.now.derivation.lines in
    record {
      ready = c.requires.ready;
      vars = refl;
      reads = both_begin cnf.lines proof (g.D.Desk.state c.args.desk.now) (LineGives taken.On cnf c.args.db.now proof cnf c.args.db.now proof) c.args.self.now.apart (λ t u task answer vars w. w);
      keeps = none_kept c.args.self.now.outputs.kept cnf proof (g.D.Desk.state c.args.desk.now) c.args.self.now.apart;
    }

pub steps-preserved : goal.steps-preserved
steps-preserved g c =
    record {
      ready = c.in-Ok-On.ensures.ready;
      vars = c.in-Ok-On.ensures.vars ∙ c.steps.invariant.vars;
      reads = runs_on _ c.args.self.now c.steps.self c.take_line.new.self c.args.db.now c.steps.db c.take_line.new.db _ _ _ c.in-Ok-On.field-0-is c.steps.invariant.vars c.steps.invariant.reads c.in-Ok-On.ensures.gives;
      keeps = keeps_on _ c.args.self.now c.steps.self c.take_line.new.self _ _ _ c.in-Ok-On.field-0-is c.steps.invariant.keeps c.in-Ok-On.ensures.keeps;
    }

pub returns-in-Ok-Last-clause-steps : goal.returns-in-Ok-Last-clause-steps
returns-in-Ok-Last-clause-steps g c = runs_out _ c.args.self.now c.steps.self c.take_line.new.self c.args.db.now c.steps.db c.take_line.new.db _ _ _ c.in-Ok-Last.field-0-is c.steps.invariant.vars c.steps.invariant.reads c.in-Ok-Last.ensures.gives

pub returns-in-Ok-Denied-clause-steps : goal.returns-in-Ok-Denied-clause-steps
returns-in-Ok-Denied-clause-steps g c = runs_denied _ c.in-Ok-Denied.denied c.number.result c.args.self.now c.steps.self c.take_line.new.self c.args.db.now c.steps.db c.take_line.new.db _ _ _ c.in-Ok-Denied.field-0-is c.number.ensures c.steps.invariant.vars c.steps.invariant.reads c.in-Ok-Denied.ensures.gives

pub returns-in-Err-clause-stopped : goal.returns-in-Err-clause-stopped
returns-in-Err-clause-stopped g c =
    runs_stop c.in-Err.fault c.args.self.now c.steps.self c.take_line.new.self c.args.db.now c.steps.db (g.D.Desk.state c.args.desk.now) (g.D.Desk.state c.steps.desk) (g.D.Desk.state c.take_line.new.desk) c.steps.invariant.vars c.steps.invariant.reads c.in-Err.ensures.stopped

pub returns-in-Ok-Last-clause-keeps : goal.returns-in-Ok-Last-clause-keeps
returns-in-Ok-Last-clause-keeps g c = keeps_out _ c.args.self.now c.steps.self c.take_line.new.self _ _ _ c.in-Ok-Last.field-0-is c.steps.invariant.keeps c.in-Ok-Last.ensures.keeps

pub returns-in-Ok-Denied-clause-keeps : goal.returns-in-Ok-Denied-clause-keeps
returns-in-Ok-Denied-clause-keeps g c = keeps_denied _ c.args.self.now c.steps.self c.take_line.new.self _ _ _ c.number.result c.in-Ok-Denied.denied c.steps.invariant.keeps c.in-Ok-Denied.ensures.keeps
