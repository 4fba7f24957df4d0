use Rattle.std.proofs.Common.{◌≡◌, ◌<◌, ◌≤◌, ◌-◌, false, length, take}
use Rattle.pb_desk.specs.View.{wrote}
use Rattle.pb_desk.specs.Desk.{Reaches}
use Rattle.pb_desk.proofs.whole.write_all.Given as goal

abbrev pub invariant-loop-at : goal.invariant-loop-at
invariant-loop-at g l = record {
  in_text : l.at ≤ length l.bytes;
  goes_on : l.at < length l.bytes → (g.D.Desk.state l.desk).finished l.slot ≡ false;
  reached : Reaches (wrote l.slot (take l.at l.bytes)) (g.D.Desk.state l.initial.desk) (g.D.Desk.state l.desk);
}

abbrev pub decreases-loop-at : goal.decreases-loop-at
decreases-loop-at g l = length l.bytes - l.at
