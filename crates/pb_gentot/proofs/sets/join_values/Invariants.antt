use Rattle.pb_gentot.specs.inner.Marks.{MarksOnly}
use Rattle.pb_gentot.specs.inner.Members.{SameMembers}
use Rattle.pb_gentot.proofs.Joining.{gathered}
use Rattle.pb_gentot.proofs.sets.join_values.Given as goal

-- the list has the members that were gathered so far, and all that are marked
abbrev pub invariant-loop-value : goal.invariant-loop-value
invariant-loop-value l = record {
  same : SameMembers l.made.items (gathered l.cap l.left l.right l.value-index);
  marked : MarksOnly l.seen l.made.items;
}
