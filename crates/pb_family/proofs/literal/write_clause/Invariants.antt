use Rattle.std.proofs.Common.{◌≡◌, ◌≤◌, ◌*◌, drop, length}
use Rattle.pb_family.specs.ClauseText.{clause_text}
use Rattle.pb_family.proofs.literal.write_clause.Given as goal

abbrev pub invariant-loop-left : goal.invariant-loop-left
invariant-loop-left l = record {
  within : l.start ≤ 60;
  room : l.left * 12 ≤ l.start;
  left : l.left ≤ length l.clause;
  written : drop l.start l.text ≡ clause_text (drop l.left l.clause);
}

abbrev pub decreases-loop-left : goal.decreases-loop-left
decreases-loop-left l = l.left
