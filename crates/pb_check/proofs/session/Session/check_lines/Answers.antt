use Rattle.std.proofs.Common.{None, Some, ◌∙◌}
use Rattle.pb_check.specs.inner.Keeping.{Tells}
use Rattle.pb_check.proofs.KeepingRuns.{before, kept_behind, waits, waits_twice}
use Rattle.pb_check.proofs.LineRuns.{apart_then, count_fault, head_fault, rest_fault, rest_verdict, started, steps_fault, steps_verdict}
use Rattle.pb_check.proofs.Readers.{can_wait}
use Rattle.pb_check.proofs.session.Session.check_lines.Goals as goal

pub returns-in-Err-clause-stopped : goal.returns-in-Err-clause-stopped
returns-in-Err-clause-stopped g c =
    head_fault c.in-Err.fault c.args.self.now.outputs.cnf c.args.db.now c.args.loaded c.args.self.now.derivation.lines c.take_head.new.self.lines (g.D.Desk.state c.args.desk.now) (g.D.Desk.state c.take_head.new.desk) c.args.self.now.apart c.in-Err.ensures.slot c.in-Err.ensures.stopped

pub returns-in-Err-take_count-clause-stopped : goal.returns-in-Err-take_count-clause-stopped
returns-in-Err-take_count-clause-stopped g c =
    count_fault c.in-Err-take_count.fault c.args.self.now.outputs.cnf c.args.db.now c.args.loaded c.args.self.now.derivation.lines c.take_head.new.self.lines c.take_count.new.self.lines (g.D.Desk.state c.args.desk.now) (g.D.Desk.state c.take_head.new.desk) (g.D.Desk.state c.take_count.new.desk) c.args.self.now.apart
    c.in-Ok.ensures.slot c.in-Err-take_count.ensures.slot c.in-Ok.ensures.leads c.in-Err-take_count.ensures.stopped

pub returns-in-Err-run_steps-clause-stopped : goal.returns-in-Err-run_steps-clause-stopped
returns-in-Err-run_steps-clause-stopped g c =
    let old = c.args.self.now in
    let ready = started old.outputs.cnf c.args.db.now c.args.loaded old.derivation.lines c.take_head.new.self.lines c.take_count.new.self.lines _ _ _ old.apart c.in-Ok.ensures.slot c.in-Ok-take_count.ensures.slot c.in-Ok.ensures.leads c.in-Ok-take_count.ensures.leads in
    steps_fault c.in-Err-run_steps.fault old.outputs.cnf c.run_steps.new.self.outputs.cnf c.args.db.now c.args.loaded old.derivation.lines c.take_count.new.self.lines c.run_steps.new.self.derivation.lines (g.D.Desk.state c.args.desk.now) (g.D.Desk.state c.take_count.new.desk) (g.D.Desk.state c.run_steps.new.desk) ready c.in-Err-run_steps.ensures.stopped

pub returns-in-Some-clause-verdict : goal.returns-in-Some-clause-verdict
returns-in-Some-clause-verdict g c =
    let old = c.args.self.now in
    let new = c.run_steps.new.self in
    let ready = started old.outputs.cnf c.args.db.now c.args.loaded old.derivation.lines c.take_head.new.self.lines c.take_count.new.self.lines _ _ _ old.apart c.in-Ok.ensures.slot c.in-Ok-take_count.ensures.slot c.in-Ok.ensures.leads c.in-Ok-take_count.ensures.leads in
    steps_verdict _ c.in-Some.verdict old.outputs.cnf new.outputs.cnf c.args.db.now c.args.loaded old.derivation.lines c.take_count.new.self.lines new.derivation.lines (g.D.Desk.state c.args.desk.now) (g.D.Desk.state c.take_count.new.desk) (g.D.Desk.state c.run_steps.new.desk) c.in-Some.is ready c.in-Ok-run_steps.ensures.steps

pub returns-in-Ok-take_rest-clause-verdict : goal.returns-in-Ok-take_rest-clause-verdict
returns-in-Ok-take_rest-clause-verdict g c =
    let old = c.args.self.now in
    let ready = started old.outputs.cnf c.args.db.now c.args.loaded old.derivation.lines c.take_head.new.self.lines c.take_count.new.self.lines _ _ _ old.apart c.in-Ok.ensures.slot c.in-Ok-take_count.ensures.slot c.in-Ok.ensures.leads c.in-Ok-take_count.ensures.leads in
    rest_verdict _ old.outputs.cnf c.run_steps.new.self.outputs.cnf c.args.db.now c.args.loaded old.derivation.lines c.take_count.new.self.lines c.run_steps.new.self.derivation.lines c.take_rest.new.self.lines (g.D.Desk.state c.args.desk.now) (g.D.Desk.state c.take_count.new.desk) (g.D.Desk.state c.run_steps.new.desk) (g.D.Desk.state c.take_rest.new.desk)
    c.in_default.is c.in-Ok-take_rest.ensures.slot ready c.in-Ok-run_steps.ensures.steps c.in-Ok-take_rest.ensures.ends

pub returns-in-Err-take_rest-clause-stopped : goal.returns-in-Err-take_rest-clause-stopped
returns-in-Err-take_rest-clause-stopped g c =
    let old = c.args.self.now in
    let ready = started old.outputs.cnf c.args.db.now c.args.loaded old.derivation.lines c.take_head.new.self.lines c.take_count.new.self.lines _ _ _ old.apart c.in-Ok.ensures.slot c.in-Ok-take_count.ensures.slot c.in-Ok.ensures.leads c.in-Ok-take_count.ensures.leads in
    rest_fault c.in-Err-take_rest.fault _ old.outputs.cnf c.run_steps.new.self.outputs.cnf c.args.db.now c.args.loaded old.derivation.lines c.take_count.new.self.lines c.run_steps.new.self.derivation.lines c.take_rest.new.self.lines (g.D.Desk.state c.args.desk.now) (g.D.Desk.state c.take_count.new.desk) (g.D.Desk.state c.run_steps.new.desk) (g.D.Desk.state c.take_rest.new.desk)
    c.in_default.is c.in-Err-take_rest.ensures.slot ready c.in-Ok-run_steps.ensures.steps c.in-Err-take_rest.ensures.stopped

pub returns-in-Some-clause-keeps : goal.returns-in-Some-clause-keeps
returns-in-Some-clause-keeps g c =
    let old = c.args.self.now in
    let new = c.run_steps.new.self in
    let count = waits_twice old.outputs.cnf.lines old.derivation.lines c.take_head.new.self.lines c.take_count.new.self.lines _ _ _ _ _ old.apart c.in-Ok.ensures.slot c.in-Ok-take_count.ensures.slot c.in-Ok.ensures.leads c.in-Ok-take_count.ensures.leads in
    kept_behind _ (Some c.in-Some.verdict) old.outputs.kept new.outputs.kept old.outputs.cnf new.outputs.cnf old.derivation.lines c.take_count.new.self.lines new.derivation.lines (g.D.Desk.state c.args.desk.now) (g.D.Desk.state c.take_count.new.desk) (g.D.Desk.state c.run_steps.new.desk) c.in-Some.is count c.in-Ok-run_steps.ensures.keeps

pub returns-in-Ok-take_rest-clause-keeps : goal.returns-in-Ok-take_rest-clause-keeps
returns-in-Ok-take_rest-clause-keeps g c =
    let old = c.args.self.now in
    let new = c.run_steps.new.self in
    let e = g.D.Desk.state c.run_steps.new.desk in
    let count = waits_twice old.outputs.cnf.lines old.derivation.lines c.take_head.new.self.lines c.take_count.new.self.lines _ _ _ _ _ old.apart c.in-Ok.ensures.slot c.in-Ok-take_count.ensures.slot c.in-Ok.ensures.leads c.in-Ok-take_count.ensures.leads in
    let steps = kept_behind _ None old.outputs.kept new.outputs.kept old.outputs.cnf new.outputs.cnf old.derivation.lines c.take_count.new.self.lines new.derivation.lines (g.D.Desk.state c.args.desk.now) (g.D.Desk.state c.take_count.new.desk) (g.D.Desk.state c.run_steps.new.desk) c.in_default.is count c.in-Ok-run_steps.ensures.keeps in
    before old.outputs.cnf.lines new.outputs.cnf.lines old.derivation.lines new.derivation.lines c.take_rest.new.self.lines (g.D.Desk.state c.args.desk.now) e (g.D.Desk.state c.take_rest.new.desk) (λ x. Tells old.outputs.kept old.outputs.cnf x new.outputs.kept.clauses) steps
    (waits new.outputs.cnf.lines new.derivation.lines c.take_rest.new.self.lines e (g.D.Desk.state c.take_rest.new.desk) _ (apart_then old.outputs.cnf.lines old.derivation.lines new.outputs.cnf.lines new.derivation.lines (g.D.Desk.state c.args.desk.now) e _ steps) c.in-Ok-take_rest.ensures.slot c.in-Ok-take_rest.ensures.ends)

pub run_steps-requires : goal.run_steps-requires
run_steps-requires g c =
    let old = c.args.self.now in
    let b = g.D.Desk.state c.take_head.new.desk in
    let d = g.D.Desk.state c.take_count.new.desk in
    let mid = c.take_head.new.self.lines in
    record {
      ready = record {
        clauses = can_wait _ old.outputs.cnf.fault old.outputs.cnf.lines mid c.take_count.new.self.lines b d _ (λ e. old.apart (e ∙ c.in-Ok.ensures.slot)) c.in-Ok-take_count.ensures.leads
            (can_wait _ old.outputs.cnf.fault old.outputs.cnf.lines old.derivation.lines mid (g.D.Desk.state c.args.desk.now) b _ old.apart c.in-Ok.ensures.leads c.requires.ready.clauses);
        lines = c.in-Ok-take_count.ensures.ready;
      };
    }
