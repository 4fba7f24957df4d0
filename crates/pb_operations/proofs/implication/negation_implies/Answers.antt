use Rattle.std.proofs.Common.{◌≡◌, ◌∙◌, ◌+◌, ◌-◌, ap, arith, true, map}
use Rattle.pb_norm.specs.Constraints.{Constraint, weight, weights}
use Rattle.pb_norm.specs.Reduction.{opposite}
use Rattle.pb_steps.specs.Operations.{implies, negation}
use Rattle.pb_operations.specs.inner.Sides.{turned}
use Rattle.pb_operations.proofs.implication.negation_implies.Goals as goal

pub follows-requires-clause-room : goal.follows-requires-clause-room
follows-requires-clause-room c = omega (arith, ap weight c.terms.ensures.weights, c.terms.ensures.linear.weight_fits)

pub returns : goal.returns
returns c =
    let degree : c.saturating_sub-degree.result ≡ weight c.args.constraint.now.terms + 1 - c.args.constraint.now.degree = omega (arith, c.saturating_sub-degree.ensures, c.weight.ensures.value, c.degree.ensures.value) in
    let turned_terms : map (turned true) (weights c.terms.result.now) ≡ map opposite c.args.constraint.now.terms = ap (map opposite) c.terms.ensures.weights in
    let same : record { terms = map (turned true) (weights c.terms.result.now); degree = c.saturating_sub-degree.result } ≡ negation c.args.constraint.now = λ i. record { terms = turned_terms i; degree = degree i } in
    c.follows.ensures ∙ ap (λ (d : Constraint). implies d c.args.other.now) same
