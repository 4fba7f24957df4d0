use Rattle.pb_gentot.specs.inner.Marks.{MarksOnly}
use Rattle.pb_gentot.proofs.seen.Seen.of.Given as goal

abbrev pub invariant-loop-value : goal.invariant-loop-value
invariant-loop-value l = MarksOnly l.seen l.values
