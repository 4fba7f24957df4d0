use Rattle.std.proofs.Common.{◌≡◌, ◌≤◌, [], length, true, false}
use Rattle.pb_family.specs.Sinks.{Takes}
use Rattle.pb_dimacs.specs.Outboxes.{held_in}
use Rattle.pb_dimacs.specs.inner.WriteBufferSinks.{shown}
use Rattle.pb_dimacs.proofs.writing.write_out.Given as goal

abbrev pub invariant-loop-desk : goal.invariant-loop-desk
invariant-loop-desk g l = record {
  is_open : (g.D.Desk.state l.desk).view.writing l.slot ≡ true;
  goes_on : 1 ≤ length (held_in l.outbox) → (g.D.Desk.state l.desk).finished l.slot ≡ false;
  taken : Takes [] (shown l.slot (held_in l.initial.outbox) (g.D.Desk.state l.initial.desk)) (shown l.slot (held_in l.outbox) (g.D.Desk.state l.desk));
}

abbrev pub decreases-loop-desk : goal.decreases-loop-desk
decreases-loop-desk g l = length (held_in l.outbox)
