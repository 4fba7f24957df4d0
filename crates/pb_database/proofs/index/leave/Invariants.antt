use Rattle.pb_database.specs.inner.Indexed.{LosesId}
use Rattle.pb_database.proofs.index.leave.Given as goal

abbrev pub invariant-loop-item : goal.invariant-loop-item
invariant-loop-item g l = LosesId l.id l.initial.lists.items l.lists.items
