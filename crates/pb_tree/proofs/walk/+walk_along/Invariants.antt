use Rattle.std.proofs.Common.{length}
use Rattle.pb_tree.proofs.walk.+walk_along.Given as goal

abbrev pub decreases-walk_along : goal.decreases-walk_along
decreases-walk_along g l = length l.terms.now
