use Rattle.std.proofs.Common.{◌≡◌, ◌∙◌, List, ap, sym, subst, Vec, Global}
use Rattle.std.proofs.lemmas.List.{drop_all}
use Rattle.pb_base.specs.declared.literal.Term.{Term}
use Rattle.pb_norm.specs.Constraints.{weights, IsAscending}
use Rattle.pb_steps.specs.declared.op.PolOp.{PolOp}
use Rattle.pb_operations.specs.Weakenings.{weakened}
use Rattle.pb_operations.proofs.Zeroed.{counted}
use Rattle.pb_operations.proofs.Parts.{weakened-begun, weakened-more, weakened-made, IsStep, weakening-step, other-step, made-is, made-is_linear}
use Rattle.pb_operations.proofs.algebra.weakenings.Goals as goal
use Rattle.pb_operations.proofs.algebra.weakenings.Goals.{in-Weaken, in_default}

pub loop-op-init : goal.loop-op-init
loop-op-init c = record {
  same = weakened-begun c.args.ops.now c.args.constraint c.into_terms-terms.result.items c.degree-degree.result c.into_terms-terms.ensures.linear c.into_terms-terms.ensures.weights c.degree-degree.ensures.value;
  ascending = subst IsAscending (sym c.into_terms-terms.ensures.weights) c.into_terms-terms.ensures.linear.ascending;
  unsigned = c.into_terms-terms.ensures.unsigned;
}

pub loop-op-preserved : goal.loop-op-preserved
loop-op-preserved c =
    let op = c.op-item.result in
    let terms = c.loop-op.terms.items in
    let next : IsStep op terms c.loop-op.degree c.match-op.terms.items c.match-op.degree =
    elim c.match-op.branch [
      | in-Weaken w ↦
          weakening-step op w.in-Weaken.var terms w.take_coef-lost.new.terms.items c.match-op.terms.items c.loop-op.degree w.take_coef-lost.result c.match-op.degree w.in-Weaken.is (ap (λ (v : Vec Term Global). v.items) w.terms-is)
          w.take_coef-lost.ensures.left w.take_coef-lost.ensures.unsigned w.take_coef-lost.ensures.lost (w.degree-is ∙ w.saturating_sub-degree.ensures) c.loop-op.invariant.ascending c.loop-op.invariant.unsigned
      | in_default w ↦
          other-step op terms c.match-op.terms.items c.loop-op.degree c.match-op.degree w.in_default.not-Weaken (ap (λ (v : Vec Term Global). v.items) w.terms-is) w.degree-is c.loop-op.invariant.ascending c.loop-op.invariant.unsigned
    ] in
    record {
      same = c.loop-op.invariant.same ∙ weakened-more c.args.ops.now c.loop-op.op-index op (counted (weights c.loop-op.terms.items) c.loop-op.degree) (counted (weights c.match-op.terms.items) c.match-op.degree) c.loop-op-test.true c.op-item.is next.same;
      ascending = next.ascending;
      unsigned = next.unsigned;
    }

pub from_parts-requires-clause-terms : goal.from_parts-requires-clause-terms
from_parts-requires-clause-terms c =
    let end : weakened c.args.ops.now c.args.constraint ≡ counted (weights c.loop-op.terms.items) c.loop-op.degree = c.loop-op.invariant.same ∙ ap (λ (ops : List PolOp). weakened ops (counted (weights c.loop-op.terms.items) c.loop-op.degree)) (drop_all c.loop-op.op-index c.args.ops.now c.loop-op-test.false) in
    (weakened-made c.args.ops.now c.args.constraint c.loop-op.terms.items c.keep_positive.new.terms.items c.loop-op.degree c.into_terms-terms.ensures.linear c.keep_positive.ensures c.loop-op.invariant.unsigned end).unsigned

pub from_parts-requires-clause-linear : goal.from_parts-requires-clause-linear
from_parts-requires-clause-linear c =
    let end : weakened c.args.ops.now c.args.constraint ≡ counted (weights c.loop-op.terms.items) c.loop-op.degree = c.loop-op.invariant.same ∙ ap (λ (ops : List PolOp). weakened ops (counted (weights c.loop-op.terms.items) c.loop-op.degree)) (drop_all c.loop-op.op-index c.args.ops.now c.loop-op-test.false) in
    made-is_linear (weakened c.args.ops.now c.args.constraint) _ _
    (weakened-made c.args.ops.now c.args.constraint c.loop-op.terms.items c.keep_positive.new.terms.items c.loop-op.degree c.into_terms-terms.ensures.linear c.keep_positive.ensures c.loop-op.invariant.unsigned end)

pub returns : goal.returns
returns c =
    let end : weakened c.args.ops.now c.args.constraint ≡ counted (weights c.loop-op.terms.items) c.loop-op.degree = c.loop-op.invariant.same ∙ ap (λ (ops : List PolOp). weakened ops (counted (weights c.loop-op.terms.items) c.loop-op.degree)) (drop_all c.loop-op.op-index c.args.ops.now c.loop-op-test.false) in
    c.from_parts.ensures ∙ made-is (weakened c.args.ops.now c.args.constraint) _ _
    (weakened-made c.args.ops.now c.args.constraint c.loop-op.terms.items c.keep_positive.new.terms.items c.loop-op.degree c.into_terms-terms.ensures.linear c.keep_positive.ensures c.loop-op.invariant.unsigned end)
