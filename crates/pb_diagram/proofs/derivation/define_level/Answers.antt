use Rattle.std.proofs.Common.{◌∙◌, ap, arith, map, sym}
use Rattle.pb_base.specs.declared.literal.Lit.{Lit}
use Rattle.pb_norm.specs.Constraints.{weights}
use Rattle.pb_norm.specs.Reduction.{opposite}
use Rattle.pb_derive.proofs.Opposites.{opposite-twice, weight-opposite}
use Rattle.pb_diagram.proofs.ReificationSteps.{reification_from, reification_next, reification_fault, reification_ends}
use Rattle.pb_diagram.proofs.derivation.define_level.Goals as goal

pub loop-place-init : goal.loop-place-init
loop-place-init g c = reification_from c.args.first (map opposite (weights c.args.sides.negated.now)) c.args.sides.nodes.now (g.T.StepSink.state c.args.sink.now)

pub derive_reification-requires-clause-light : goal.derive_reification-requires-clause-light
derive_reification-requires-clause-light g c = omega (arith, c.weight_of-whole.ensures, c.args.sides.light)

pub returns-in_err-derive_reification : goal.returns-in_err-derive_reification
returns-in_err-derive_reification g c =
    reification_fault _ _ _ _ _ _ _ c.loop-place-test.true c.loop-place.invariant _ c.weight_of-whole.result (weights c.args.sides.negated.now) (ap (λ (l : Lit). l.var) c.fresh_at-var.ensures) (c.weight_of-whole.ensures ∙ sym (weight-opposite (weights c.args.sides.negated.now))) (sym (opposite-twice (weights c.args.sides.negated.now)))
    c.from_residual.result _ (g.T.StepSink.state c.derive_reification.new.sink) c.from_residual.ensures.1 c.in_err-derive_reification.ensures

pub loop-place-preserved : goal.loop-place-preserved
loop-place-preserved g c =
    reification_next _ _ _ _ _ _ _ c.loop-place-test.true c.loop-place.invariant _ c.weight_of-whole.result (weights c.args.sides.negated.now) (ap (λ (l : Lit). l.var) c.fresh_at-var.ensures) (c.weight_of-whole.ensures ∙ sym (weight-opposite (weights c.args.sides.negated.now))) (sym (opposite-twice (weights c.args.sides.negated.now)))
    (g.T.StepSink.state c.derive_reification.new.sink) c.in_ok-derive_reification.ensures

pub returns : goal.returns
returns g c = reification_ends _ _ _ _ _ _ (omega arith) c.loop-place.invariant

pub weight_of-whole-requires : goal.weight_of-whole-requires
weight_of-whole-requires g c = omega (arith, c.args.sides.light)

pub fresh_at-var-requires : goal.fresh_at-var-requires
fresh_at-var-requires g c = record { low = c.requires.low; high = omega (arith, c.requires.high, c.loop-place-test.true) }

pub overflow_add-least : goal.overflow_add-least
overflow_add-least g c = omega (arith, c.weight_of-whole.ensures, c.args.sides.light)

pub overflow_sub-least : goal.overflow_sub-least
overflow_sub-least g c = omega (arith, c.weight_of-whole.ensures, c.args.sides.within c.loop-place.place (record { low = 0; top = 0 }) c.loop-place-test.true)

pub derive_reification-requires-clause-few : goal.derive_reification-requires-clause-few
derive_reification-requires-clause-few g c = omega (arith, c.loop-place.invariant.count, c.requires.few, c.loop-place-test.true)
