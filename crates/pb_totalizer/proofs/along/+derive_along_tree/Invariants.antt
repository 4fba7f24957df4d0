use Rattle.std.proofs.Common.{length}
use Rattle.pb_totalizer.proofs.along.+derive_along_tree.Given as goal

abbrev pub decreases-derive_along_tree : goal.decreases-derive_along_tree
decreases-derive_along_tree g l = length l.terms.now
