use Rattle.std.proofs.Common.{◌≡◌, ◌≤◌, ◌-◌, length, take, true, false}
use Rattle.pb_family.specs.Sinks.{Takes}
use Rattle.pb_dimacs.specs.Outboxes.{held_in}
use Rattle.pb_dimacs.specs.inner.WriteBufferSinks.{shown}
use Rattle.pb_dimacs.proofs.writing.put_text.Given as goal

abbrev pub invariant-loop-at : goal.invariant-loop-at
invariant-loop-at g l = record {
  is_open : (g.D.Desk.state l.desk).view.writing l.slot ≡ true;
  not_finished : (g.D.Desk.state l.desk).finished l.slot ≡ false;
  within : l.at ≤ length l.text;
  taken : Takes (take l.at l.text) (shown l.slot (held_in l.initial.outbox) (g.D.Desk.state l.initial.desk)) (shown l.slot (held_in l.outbox) (g.D.Desk.state l.desk));
}

abbrev pub decreases-loop-at : goal.decreases-loop-at
decreases-loop-at g l = length l.text - l.at
