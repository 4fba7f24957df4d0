use Rattle.std.proofs.Common.{◌≡◌, length}
use Rattle.pb_steps.specs.LineSteps.{sets_in}
use Rattle.pb_steps.specs.inner.Reading.{with_items}
use Rattle.pb_steps.proofs.constraint.read_sets.Given as goal

abbrev pub invariant-sets : goal.invariant-sets
invariant-sets l = sets_in l.end 0 l.fn.words ≡ with_items l.sets (sets_in l.end l.above l.words)

abbrev pub decreases-sets : goal.decreases-sets
decreases-sets l = length l.words
