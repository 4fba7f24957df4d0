use Rattle.std.proofs.Common.{◌∙◌, arith, ◌≡◌, ◌+◌, ◌-◌}
use Rattle.pb_norm.specs.Constraints.{weight}
use Rattle.pb_steps.specs.Operations.{negation}
use Rattle.pb_operations.proofs.Parts.{coefs-below, negation-made, made-is, made-is_linear}
use Rattle.pb_operations.proofs.algebra.negation.Goals as goal

pub opposites-requires : goal.opposites-requires
opposites-requires c = coefs-below c.args.constraint.now _ c.terms.ensures.weights c.terms.ensures.linear

pub from_parts-requires-clause-terms : goal.from_parts-requires-clause-terms
from_parts-requires-clause-terms c =
    let degree : c.saturating_sub-degree.result ≡ weight c.args.constraint.now.terms + 1 - c.args.constraint.now.degree = omega (arith, c.saturating_sub-degree.ensures, c.weight.ensures.value, c.degree.ensures.value) in
    (negation-made c.args.constraint.now _ _ _ c.terms.ensures.linear c.requires c.terms.ensures.weights c.in_ok-terms.ensures degree).unsigned

pub from_parts-requires-clause-linear : goal.from_parts-requires-clause-linear
from_parts-requires-clause-linear c =
    let degree : c.saturating_sub-degree.result ≡ weight c.args.constraint.now.terms + 1 - c.args.constraint.now.degree = omega (arith, c.saturating_sub-degree.ensures, c.weight.ensures.value, c.degree.ensures.value) in
    made-is_linear (negation c.args.constraint.now) _ _
    (negation-made c.args.constraint.now _ _ _ c.terms.ensures.linear c.requires c.terms.ensures.weights c.in_ok-terms.ensures degree)

pub returns : goal.returns
returns c =
    let degree : c.saturating_sub-degree.result ≡ weight c.args.constraint.now.terms + 1 - c.args.constraint.now.degree = omega (arith, c.saturating_sub-degree.ensures, c.weight.ensures.value, c.degree.ensures.value) in
    c.from_parts.ensures ∙ made-is (negation c.args.constraint.now) _ _
    (negation-made c.args.constraint.now _ _ _ c.terms.ensures.linear c.requires c.terms.ensures.weights c.in_ok-terms.ensures degree)
