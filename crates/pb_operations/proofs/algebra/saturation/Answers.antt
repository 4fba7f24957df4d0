use Rattle.std.proofs.Common.{◌∙◌}
use Rattle.pb_steps.specs.Operations.{saturation}
use Rattle.pb_operations.proofs.Parts.{saturation-made, made-is, made-is_linear}
use Rattle.pb_operations.proofs.algebra.saturation.Goals as goal

pub from_parts-requires-clause-terms : goal.from_parts-requires-clause-terms
from_parts-requires-clause-terms c =
    (saturation-made c.args.constraint.now _ _ _ _ c.terms.ensures.linear c.terms.ensures.weights c.in_ok-terms.ensures c.degree.ensures.value c.degree-2.ensures.value).unsigned

pub from_parts-requires-clause-linear : goal.from_parts-requires-clause-linear
from_parts-requires-clause-linear c =
    made-is_linear (saturation c.args.constraint.now) _ _
    (saturation-made c.args.constraint.now _ _ _ _ c.terms.ensures.linear c.terms.ensures.weights c.in_ok-terms.ensures c.degree.ensures.value c.degree-2.ensures.value)

pub returns : goal.returns
returns c =
    c.from_parts.ensures ∙ made-is (saturation c.args.constraint.now) _ _
    (saturation-made c.args.constraint.now _ _ _ _ c.terms.ensures.linear c.terms.ensures.weights c.in_ok-terms.ensures c.degree.ensures.value c.degree-2.ensures.value)
