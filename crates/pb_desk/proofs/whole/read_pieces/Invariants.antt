use Rattle.std.proofs.Common.{◌≡◌, ◌≤◌, length, take, ◌-◌}
use Rattle.pb_desk.specs.Desk.{Advances, IfKept}
use Rattle.pb_desk.proofs.whole.read_pieces.Given as goal

abbrev pub invariant-loop-text : goal.invariant-loop-text
invariant-loop-text g l = record {
  in_limit : length l.text.items ≤ l.limit;
  no_end : (g.D.Desk.state l.desk).ended ≡ (g.D.Desk.state l.initial.desk).ended;
  taken : Advances l.slot (length l.text.items) (g.D.Desk.state l.initial.desk) (g.D.Desk.state l.desk);
  so_far : IfKept (g.D.Desk.state l.initial.desk) (g.D.Desk.state l.desk) (λ t. l.text.items ≡ take (length l.text.items) (t.left l.slot));
}

abbrev pub decreases-loop-text : goal.decreases-loop-text
decreases-loop-text g l = l.limit - length l.text.items
