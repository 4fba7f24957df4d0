use Rattle.std.proofs.Common.{◌≡◌, length}
use Rattle.pb_lrat.specs.LratLines.{ids_of}
use Rattle.pb_steps.specs.inner.Reading.{with_items}
use Rattle.pb_lrat.proofs.read.read_ids.Given as goal

abbrev pub invariant-ids : goal.invariant-ids
invariant-ids l = ids_of l.end l.fn.words ≡ with_items l.ids (ids_of l.end l.words)

abbrev pub decreases-ids : goal.decreases-ids
decreases-ids l = length l.words
