use Rattle.std.proofs.Common.{◌≡◌, ◌-◌, filter, drop}
use Rattle.pb_norm.specs.Constraints.{weight, weights}
use Rattle.pb_norm.specs.Reduction.{is_above}
use Rattle.pb_choice.proofs.reducing.degree_left.Given as goal

abbrev pub invariant-loop-term : goal.invariant-loop-term
invariant-loop-term l = l.left - weight (filter (is_above l.slack) (weights (drop l.term-index l.terms))) ≡ l.degree - weight (filter (is_above l.slack) (weights l.terms))
