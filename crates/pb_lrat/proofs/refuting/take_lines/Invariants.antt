use Rattle.std.proofs.Common.{◌-◌, ◌^◌}
use Rattle.pb_desk.specs.LineReading.{TakesAhead}
use Rattle.pb_dimacs.specs.Cursors.{GoesOn}
use Rattle.pb_lrat.proofs.Walking.{EndsSame, TakesOn}
use Rattle.pb_lrat.proofs.refuting.take_lines.Given as goal

abbrev pub invariant-rows : goal.invariant-rows
invariant-rows g l = record {
  goes_on : GoesOn l.initial.lines l.lines;
  reads : TakesAhead l.initial.lines.slot l.initial.lines.ahead l.lines.ahead (g.D.Desk.state l.initial.desk) (g.D.Desk.state l.desk) (EndsSame l.initial.checker l.initial.lines l.checker l.lines);
  passes : TakesAhead l.initial.lines.slot l.initial.lines.ahead l.lines.ahead (g.D.Desk.state l.initial.desk) (g.D.Desk.state l.desk) (TakesOn l.initial.checker l.initial.lines l.checker l.lines);
}

abbrev pub decreases-rows : goal.decreases-rows
decreases-rows g l = 2 ^ 40 - l.lines.number
