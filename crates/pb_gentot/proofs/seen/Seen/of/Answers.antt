use Rattle.std.proofs.Common.{arith}
use Rattle.pb_gentot.proofs.Marking.{marks_one}
use Rattle.pb_gentot.proofs.seen.Seen.of.Goals as goal

pub loop-value-preserved : goal.loop-value-preserved
loop-value-preserved c = marks_one c.loop-value.seen c.insert.new.self c.args.values.now c.loop-value.value-index (omega arith) c.loop-value.invariant c.insert.ensures.marks
