use Rattle.std.proofs.Common.{◌≡◌, ◌≤◌, ◌-◌, ◌^◌}
use Rattle.pb_desk.specs.LineReading.{TakesAhead}
use Rattle.pb_dimacs.specs.Cursors.{rows_left}
use Rattle.pb_check.specs.inner.Phases.{behind_blank}
use Rattle.pb_check.specs.inner.Readers.{ReadsLines}
use Rattle.pb_check.proofs.derivation.Derivation.next_step.Given as goal

abbrev pub invariant-rows : goal.invariant-rows
invariant-rows g l = record {
  ready : ReadsLines l.self.lines (g.D.Desk.state l.desk);
  slot : l.self.lines.slot ≡ l.initial.self.lines.slot;
  later : l.initial.self.lines.number ≤ l.self.lines.number;
  reads : TakesAhead l.initial.self.lines.slot l.initial.self.lines.ahead l.self.lines.ahead (g.D.Desk.state l.initial.desk) (g.D.Desk.state l.desk) (λ text rest. behind_blank (rows_left l.initial.self.lines text) ≡ behind_blank (rows_left l.self.lines rest));
}

abbrev pub decreases-rows : goal.decreases-rows
decreases-rows g l = 2 ^ 40 - l.self.lines.number
