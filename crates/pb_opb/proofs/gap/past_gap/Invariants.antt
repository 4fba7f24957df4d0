use Rattle.std.proofs.Common.{length}
use Rattle.pb_opb.specs.reader.Heads.{Skips}
use Rattle.pb_opb.proofs.gap.past_gap.Given as goal

abbrev pub invariant-loop-rest : goal.invariant-loop-rest
invariant-loop-rest l = Skips l.text l.left

abbrev pub decreases-loop-rest : goal.decreases-loop-rest
decreases-loop-rest l = length l.left
