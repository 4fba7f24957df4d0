use Rattle.std.proofs.Common.{reverse, vec_len}
use Rattle.pb_lrat.specs.inner.Marks.{value_at}
use Rattle.pb_lrat.specs.inner.Trails.{IsTrail}
use Rattle.pb_lrat.proofs.trail.Trail.clear.Given as goal

abbrev pub invariant-newest : goal.invariant-newest
invariant-newest l = IsTrail (value_at l.self-inside.marks) (reverse l.self-inside.order.items)

abbrev pub decreases-newest : goal.decreases-newest
decreases-newest l = vec_len l.self-inside.order
