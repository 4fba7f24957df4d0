use Rattle.pb_diagram.specs.inner.Tiers.{IsReached, child_on}
use Rattle.pb_diagram.proofs.side.reach_at.Given as goal

abbrev pub invariant-loop-seen : goal.invariant-loop-seen
invariant-loop-seen l = IsReached (child_on l.side) l.nodes l.seen l.top l.place
