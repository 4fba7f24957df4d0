use Rattle.std.proofs.Common.{◌+◌, length}
use Rattle.pb_base.specs.Problems.{originals}
use Rattle.pb_encode.specs.Groups.{groups_of}
use Rattle.pb_encode.proofs.CountingLoops.{Counting}
use Rattle.pb_encode.proofs.measuring.tally_of.Given as goal

abbrev pub invariant-loop-groups : goal.invariant-loop-groups
invariant-loop-groups l = Counting l.options (originals l.problem + 1) (groups_of l.problem) l.groups l.tally l.hints

abbrev pub decreases-loop-groups : goal.decreases-loop-groups
decreases-loop-groups l = length l.groups
