use Rattle.std.proofs.Common.{◌≡◌, take, map}
use Rattle.pb_norm.specs.Constraints.{weighted}
use Rattle.pb_diagram.specs.GuardedSteps.{node_in}
use Rattle.pb_diagram.proofs.nodes.list_level.Given as goal

abbrev pub invariant-loop-place : goal.invariant-loop-place
invariant-loop-place l = l.nodes.items ≡ map (node_in (weighted l.layer.term.now).coef l.layer.whole l.layer.next.now) (take l.place l.layer.nodes.now)
