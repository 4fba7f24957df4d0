use Rattle.std.proofs.Common.{◌<◌, ◌^◌, ◌∙◌, List, ap, length, rules, subst}
use Rattle.pb_base.specs.declared.literal.Term.{Term}
use Rattle.pb_norm.specs.Constraints.{IsAscending, weights}
use Rattle.pb_norm.specs.ClauseForm.{clause_form}
use Rattle.pb_norm.proofs.SortedClauses.{sorted-unsigned, sorted-is, sorted-linear}
use Rattle.pb_norm.proofs.clause.form_of.Goals as goal

pub from_parts-requires-clause-terms : goal.from_parts-requires-clause-terms
from_parts-requires-clause-terms c =
    let up : IsAscending (weights c.in_ok-terms.terms.items) = subst (λ (ts : List Term). IsAscending (weights ts)) c.deref.ensures.value (c.ascend.ensures c.if-ascend.true) in
    sorted-unsigned c.as_slice.result.now c.in_ok-terms.terms.items c.in_ok-terms.ensures up

pub from_parts-requires-clause-linear : goal.from_parts-requires-clause-linear
from_parts-requires-clause-linear c =
    let up : IsAscending (weights c.in_ok-terms.terms.items) = subst (λ (ts : List Term). IsAscending (weights ts)) c.deref.ensures.value (c.ascend.ensures c.if-ascend.true) in
    let short : length c.as_slice.result.now < 2 ^ 64 = search rules in
    sorted-linear c.as_slice.result.now c.in_ok-terms.terms.items c.in_ok-terms.ensures up short

pub returns-then-ascend : goal.returns-then-ascend
returns-then-ascend c =
    let up : IsAscending (weights c.in_ok-terms.terms.items) = subst (λ (ts : List Term). IsAscending (weights ts)) c.deref.ensures.value (c.ascend.ensures c.if-ascend.true) in
    c.from_parts.ensures ∙ sorted-is c.as_slice.result.now c.in_ok-terms.terms.items c.in_ok-terms.ensures up ∙ ap clause_form c.as_slice.ensures
