use Rattle.std.proofs.Common.{◌≡◌, ◌+◌, ℕ, List, subst, arith}
use Rattle.std.specs.Prelude.{IfOk}
use Rattle.pb_steps.specs.declared.step.Step.{Step}
use Rattle.pb_family.specs.StepSinks.{HandsSteps}
use Rattle.pb_family.proofs.Deriving.{steps_lack_first}
use Rattle.pb_encode.specs.declared.position.Position.{Position}
use Rattle.pb_encode.proofs.GroupParts.{parts_of}
use Rattle.pb_encode.proofs.derivation.derive_group.Goals as goal

pub returns-in_err-plan-clause-hands : goal.returns-in_err-plan-clause-hands
returns-in_err-plan-clause-hands g c = steps_lack_first _ (g.T.StepSink.state c.args.sink.now) c.from_residual.result c.from_residual.ensures.1

pub derive-requires : goal.derive-requires
derive-requires g c =
    let position = c.args.position in
    let parts = parts_of c.args.options.now c.args.group.now c.in_ok-plan.plan c.in_ok-plan.ensures in
    let turn = c.requires.turn in
    record {
      original = parts.below position.first c.requires.sound.below;
      turn = record {
        fits = omega (arith, turn.fits, parts.fresh_is);
        counted = omega (arith, turn.counted, parts.count_is);
        known = omega (arith, turn.known, parts.size_is);
        few = turn.few;
      };
    }

pub returns-clause-first : goal.returns-clause-first
returns-clause-first g c =
    subst (λ (n : ℕ). IfOk c.derive.result (λ (next : Position). next.first ≡ c.args.position.first + n)) (parts_of c.args.options.now c.args.group.now c.in_ok-plan.plan c.in_ok-plan.ensures).fresh_is c.derive.ensures.first

pub returns-clause-id : goal.returns-clause-id
returns-clause-id g c =
    subst (λ (n : ℕ). IfOk c.derive.result (λ (next : Position). next.id ≡ c.args.position.id + n)) (parts_of c.args.options.now c.args.group.now c.in_ok-plan.plan c.in_ok-plan.ensures).size_is c.derive.ensures.id

pub returns-clause-hands : goal.returns-clause-hands
returns-clause-hands g c =
    let position = c.args.position in
    let old = g.T.StepSink.state c.args.sink.now in
    subst (λ (ss : List Step). HandsSteps ss c.derive.result old (g.T.StepSink.state c.derive.new.sink))
    ((parts_of c.args.options.now c.args.group.now c.in_ok-plan.plan c.in_ok-plan.ensures).steps_are position.first position.id old.next) c.derive.ensures.hands
