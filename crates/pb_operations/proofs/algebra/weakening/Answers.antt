use Rattle.std.proofs.Common.{◌∙◌, ap, ◌-◌, ℕ, subst, sym}
use Rattle.pb_norm.specs.Constraints.{IsAscending}
use Rattle.pb_steps.specs.Operations.{weakening}
use Rattle.pb_operations.proofs.Parts.{weakening-made, made-is, made-is_linear}
use Rattle.pb_operations.proofs.algebra.weakening.Goals as goal

pub take_var-lost-requires : goal.take_var-lost-requires
take_var-lost-requires c = subst IsAscending (sym c.into_terms-terms.ensures.weights) c.into_terms-terms.ensures.linear.ascending

pub from_parts-requires-clause-terms : goal.from_parts-requires-clause-terms
from_parts-requires-clause-terms c =
    (weakening-made c.args.var c.args.constraint _ _ _ _ _ c.into_terms-terms.ensures.linear c.into_terms-terms.ensures.weights c.take_var-lost.ensures.others c.into_terms-terms.ensures.weights c.take_var-lost.ensures.lost
    (c.saturating_sub.ensures ∙ ap (λ (n : ℕ). n - c.take_var-lost.result) c.degree-degree.ensures.value) c.into_terms-terms.ensures.unsigned).unsigned

pub from_parts-requires-clause-linear : goal.from_parts-requires-clause-linear
from_parts-requires-clause-linear c =
    made-is_linear (weakening c.args.var c.args.constraint) _ _
    (weakening-made c.args.var c.args.constraint _ _ _ _ _ c.into_terms-terms.ensures.linear c.into_terms-terms.ensures.weights c.take_var-lost.ensures.others c.into_terms-terms.ensures.weights c.take_var-lost.ensures.lost
    (c.saturating_sub.ensures ∙ ap (λ (n : ℕ). n - c.take_var-lost.result) c.degree-degree.ensures.value) c.into_terms-terms.ensures.unsigned)

pub returns : goal.returns
returns c =
    c.from_parts.ensures ∙ made-is (weakening c.args.var c.args.constraint) _ _
    (weakening-made c.args.var c.args.constraint _ _ _ _ _ c.into_terms-terms.ensures.linear c.into_terms-terms.ensures.weights c.take_var-lost.ensures.others c.into_terms-terms.ensures.weights c.take_var-lost.ensures.lost
    (c.saturating_sub.ensures ∙ ap (λ (n : ℕ). n - c.take_var-lost.result) c.degree-degree.ensures.value) c.into_terms-terms.ensures.unsigned)
