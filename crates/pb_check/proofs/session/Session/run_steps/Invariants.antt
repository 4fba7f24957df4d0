use Rattle.std.proofs.Common.{◌≡◌, ◌-◌, ◌^◌}
use Rattle.pb_desk.specs.TwoSlots.{ReadsBoth}
use Rattle.pb_check.specs.declared.taking.Taken.TheVariants.{On}
use Rattle.pb_check.specs.inner.Keeping.{KeepsLine}
use Rattle.pb_check.specs.inner.Phases.{LineGives}
use Rattle.pb_check.specs.inner.Sessions.{IsReady}
use Rattle.pb_check.proofs.session.Session.run_steps.Given as goal

abbrev pub invariant-steps : goal.invariant-steps
invariant-steps g l = record {
  ready : IsReady l.self (g.D.Desk.state l.desk);
  vars : l.self.outputs.cnf.vars ≡ l.initial.self.outputs.cnf.vars;
  reads : ReadsBoth l.initial.self.outputs.cnf.lines l.initial.self.derivation.lines l.self.outputs.cnf.lines l.self.derivation.lines (g.D.Desk.state l.initial.desk) (g.D.Desk.state l.desk) (LineGives On l.initial.self.outputs.cnf l.initial.db l.initial.self.derivation.lines l.self.outputs.cnf l.db l.self.derivation.lines);
  keeps : KeepsLine On l.initial.self.outputs.kept l.initial.self.outputs.cnf l.initial.self.derivation.lines l.self.outputs.kept l.self.outputs.cnf l.self.derivation.lines (g.D.Desk.state l.initial.desk) (g.D.Desk.state l.desk);
}

abbrev pub decreases-steps : goal.decreases-steps
decreases-steps g l = 2 ^ 40 - l.self.derivation.lines.number
