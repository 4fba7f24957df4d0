use Rattle.std.proofs.Common.{◌∙◌}
use Rattle.pb_steps.specs.Operations.{division}
use Rattle.pb_operations.proofs.Parts.{coefs-below, division-made, made-is, made-is_linear}
use Rattle.pb_operations.proofs.algebra.division.Goals as goal

pub shrunk-requires-clause-terms : goal.shrunk-requires-clause-terms
shrunk-requires-clause-terms c = coefs-below c.args.constraint.now _ c.terms.ensures.weights c.terms.ensures.linear

pub from_parts-requires-clause-terms : goal.from_parts-requires-clause-terms
from_parts-requires-clause-terms c =
    (division-made c.args.divisor c.args.constraint.now _ _ _ _ c.requires.divisor c.terms.ensures.linear c.terms.ensures.weights c.in_ok-terms.ensures c.degree.ensures.value c.quotient_up-degree.ensures).unsigned

pub from_parts-requires-clause-linear : goal.from_parts-requires-clause-linear
from_parts-requires-clause-linear c =
    made-is_linear (division c.args.divisor c.args.constraint.now) _ _
    (division-made c.args.divisor c.args.constraint.now _ _ _ _ c.requires.divisor c.terms.ensures.linear c.terms.ensures.weights c.in_ok-terms.ensures c.degree.ensures.value c.quotient_up-degree.ensures)

pub returns : goal.returns
returns c =
    c.from_parts.ensures ∙ made-is (division c.args.divisor c.args.constraint.now) _ _
    (division-made c.args.divisor c.args.constraint.now _ _ _ _ c.requires.divisor c.terms.ensures.linear c.terms.ensures.weights c.in_ok-terms.ensures c.degree.ensures.value c.quotient_up-degree.ensures)
