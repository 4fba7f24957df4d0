use Rattle.std.proofs.Common.{◌≡◌, ◌+◌, ◌++◌, drop}
use Rattle.pb_norm.specs.Constraints.{weights}
use Rattle.pb_diagram.specs.Guards.{rises}
use Rattle.pb_diagram.specs.inner.Parts.{signed}
use Rattle.pb_diagram.proofs.stage.push_rises.Given as goal

-- what was pushed, and the nodes from here on
abbrev pub invariant-loop-place : goal.invariant-loop-place
invariant-loop-place l = weights l.terms.items ++ rises (signed l.positive) (l.first + l.place) l.low (drop l.place l.nodes) ≡ weights l.fn.terms.items ++ rises (signed l.positive) l.first 0 l.nodes
