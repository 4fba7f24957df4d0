use Rattle.std.proofs.Common.{◌∙◌}
use Rattle.pb_steps.specs.Substitutions.{restriction}
use Rattle.pb_operations.proofs.Parts.{restriction-made, made-is, made-is_linear}
use Rattle.pb_operations.proofs.substitution.restricted.Goals as goal

pub from_parts-requires-clause-terms : goal.from_parts-requires-clause-terms
from_parts-requires-clause-terms c =
    (restriction-made c.args.sets.now c.args.constraint _ _ _ c.into_terms-terms.ensures.linear c.into_terms-terms.ensures.weights c.keep_unset.ensures c.degree_left-degree.ensures c.into_terms-terms.ensures.unsigned).unsigned

pub from_parts-requires-clause-linear : goal.from_parts-requires-clause-linear
from_parts-requires-clause-linear c =
    made-is_linear (restriction c.args.sets.now c.args.constraint) _ _
    (restriction-made c.args.sets.now c.args.constraint _ _ _ c.into_terms-terms.ensures.linear c.into_terms-terms.ensures.weights c.keep_unset.ensures c.degree_left-degree.ensures c.into_terms-terms.ensures.unsigned)

pub returns : goal.returns
returns c =
    c.from_parts.ensures ∙ made-is (restriction c.args.sets.now c.args.constraint) _ _
    (restriction-made c.args.sets.now c.args.constraint _ _ _ c.into_terms-terms.ensures.linear c.into_terms-terms.ensures.weights c.keep_unset.ensures c.degree_left-degree.ensures c.into_terms-terms.ensures.unsigned)
