use Rattle.std.proofs.Common.{length}
use Rattle.tests_runs.proofs.replay.+left_of.Given as goal

abbrev pub decreases-left_of : goal.decreases-left_of
decreases-left_of l = length l.calls.now
