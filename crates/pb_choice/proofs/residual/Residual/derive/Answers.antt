use Rattle.std.proofs.Common.{◌≡◌, ℕ, List, [], ◌∷◌, Result, sym, subst}
use Rattle.pb_base.specs.declared.literal.Lit.{Lit}
use Rattle.pb_steps.specs.declared.step.Step.{Step}
use Rattle.pb_family.specs.declared.sink.SinkFault.{SinkFault}
use Rattle.pb_family.specs.Derivations.{propagated}
use Rattle.pb_family.specs.StepSinks.{HandsSteps, StepState, TakesSteps}
use Rattle.pb_family.proofs.Deriving.{steps_lack_first, takes_no_steps}
use Rattle.pb_choice.specs.declared.residual.Residual.{Residual}
use Rattle.pb_choice.specs.Reducing.{reduction}
use Rattle.pb_choice.specs.Residual.{left_steps}
use Rattle.pb_choice.proofs.residual.Residual.derive.Goals as goal

pub returns-in_err-step-in-Sum : goal.returns-in_err-step-in-Sum
returns-in_err-step-in-Sum g c = steps_lack_first _ _ c.from_residual.result c.from_residual.ensures.1

-- steps of what is left, by what it is
left_as : {T R : Type 0} {l e : Residual} (reduces : Step) (first id : ℕ) (r : Result T SinkFault) (a b : StepState R) → l ≡ e → HandsSteps (left_steps reduces e first id a.next) r a b → HandsSteps (left_steps reduces l first id a.next) r a b
left_as reduces first id r a b is h = subst (λ (left : Residual). HandsSteps (left_steps reduces left first id a.next) r a b) (sym is) h

pub returns-in-Nothing : goal.returns-in-Nothing
returns-in-Nothing g c =
    let a = g.T.StepSink.state c.args.sink.now in
    let o = c.args.origin.now in
    subst (λ (left : Residual). TakesSteps (left_steps (reduction o.id o.units.now o.constraint.now) left c.args.first o.id a.next) a a) (sym c.in-Nothing.is) (takes_no_steps a)

pub returns-in-Empty : goal.returns-in-Empty
returns-in-Empty g c =
    let o = c.args.origin.now in
    left_as (reduction o.id o.units.now o.constraint.now) c.args.first o.id c.derive_propagated.result _ _ c.in-Empty.is c.derive_propagated.ensures

pub returns-in-Clause : goal.returns-in-Clause
returns-in-Clause g c =
    let o = c.args.origin.now in
    let a = g.T.StepSink.state c.args.sink.now in
    let r = c.derive_propagated-in-Clause.result in
    let b = g.T.StepSink.state c.derive_propagated-in-Clause.new.sink in
    left_as (reduction o.id o.units.now o.constraint.now) c.args.first o.id r a b c.in-Clause.is
    (subst (λ (ls : List Lit). HandsSteps (propagated a.next (o.id ∷ []) ls) r a b) c.as_slice.ensures c.derive_propagated-in-Clause.ensures)
