use Rattle.std.proofs.Common.{◌≡◌, ◌++◌, ◌-◌, length}
use Rattle.pb_desk.specs.LineReading.{TakesAhead}
use Rattle.pb_desk.specs.inner.PieceReading.{InLine}
use Rattle.pb_desk.proofs.line.read_line.Given as goal

abbrev pub invariant-pieces : goal.invariant-pieces
invariant-pieces g l = record {
  in_line : InLine l.left l.line.items;
  reads : TakesAhead l.slot l.initial.ahead l.ahead (g.D.Desk.state l.initial.desk) (g.D.Desk.state l.desk) (λ text rest. text ≡ l.line.items ++ rest);
}

abbrev pub decreases-pieces : goal.decreases-pieces
decreases-pieces g l = l.left.line - length l.line.items
