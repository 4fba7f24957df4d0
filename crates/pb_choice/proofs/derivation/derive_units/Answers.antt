use Rattle.std.proofs.Common.{◌≡◌, ◌+◌, ◌++◌, ℕ, List, [], ◌∷◌, ap, arith, drop, length, refl, subst}
use Rattle.std.proofs.lemmas.List.{drop_all}
use Rattle.pb_base.specs.declared.literal.Lit.{Lit}
use Rattle.pb_derive.specs.Claims.{claim_steps}
use Rattle.pb_family.specs.Derivations.{propagated}
use Rattle.pb_family.specs.StepSinks.{HandsSteps, TakesSteps}
use Rattle.pb_family.proofs.Deriving.{Deriving, deriving_as, deriving_ends, deriving_starts, deriving_step, steps_fault}
use Rattle.pb_choice.specs.ConstraintSteps.{unit_claims}
use Rattle.pb_choice.proofs.UnitClauses.{units_left}
use Rattle.pb_choice.proofs.derivation.derive_units.Given.{Over}
use Rattle.pb_choice.proofs.derivation.derive_units.Goals.{After-derive_propagated}
use Rattle.pb_choice.proofs.derivation.derive_units.Goals as goal

pub loop-unit-init : goal.loop-unit-init
loop-unit-init g c = (deriving_starts _ _, refl)

pub derive_propagated-requires : goal.derive_propagated-requires
derive_propagated-requires g c =
    let us = c.as_slice-unit-items.result.now in
    let rest = units_left us c.loop-unit.unit-index c.unit-item.result c.loop-unit-test.true c.unit-item.is in
    let same : length us ≡ length c.args.units.now = ap length c.as_slice-unit-items.ensures in
    record { few = omega (arith, c.loop-unit.invariant.1, ap length rest, same, c.requires.room) }

-- the claim of a unit is next
here : (g : Over) (c : After-derive_propagated g) → (let us = c.as_slice-unit-items.result.now in let old = g.T.StepSink.state c.args.sink.now in let now = g.T.StepSink.state c.loop-unit.sink in
    Deriving (claim_steps old.next (unit_claims c.args.id us)) (propagated now.next (c.args.id ∷ []) (c.unit-item.result ∷ []) ++ claim_steps (now.next + 1) (unit_claims c.args.id (drop (c.loop-unit.unit-index + 1) us))) old now)
here g c =
    let claims = λ (us : List Lit). claim_steps (g.T.StepSink.state c.loop-unit.sink).next (unit_claims c.args.id us) in
    deriving_as {all = claim_steps (g.T.StepSink.state c.args.sink.now).next (unit_claims c.args.id c.as_slice-unit-items.result.now)} (ap claims (units_left c.as_slice-unit-items.result.now c.loop-unit.unit-index c.unit-item.result c.loop-unit-test.true c.unit-item.is)) c.loop-unit.invariant.0

pub returns-in_err-derive_propagated : goal.returns-in_err-derive_propagated
returns-in_err-derive_propagated g c =
    let us = c.as_slice-unit-items.result.now in
    let old = g.T.StepSink.state c.args.sink.now in
    let now = g.T.StepSink.state c.loop-unit.sink in
    let after = g.T.StepSink.state c.derive_propagated.new.sink in
    let r = c.from_residual.result in
    let failed : HandsSteps (claim_steps old.next (unit_claims c.args.id us)) r old after = steps_fault r _ (propagated now.next (c.args.id ∷ []) (c.unit-item.result ∷ [])) (claim_steps (now.next + 1) (unit_claims c.args.id (drop (c.loop-unit.unit-index + 1) us))) after c.from_residual.ensures.1
    (here g (goal.at.returns-in_err-derive_propagated g c).After-derive_propagated) c.in_err-derive_propagated.ensures in
    subst (λ (ls : List Lit). HandsSteps (claim_steps old.next (unit_claims c.args.id ls)) r old after) c.as_slice-unit-items.ensures failed

pub returns : goal.returns
returns g c =
    let us = c.as_slice-unit-items.result.now in
    let old = g.T.StepSink.state c.args.sink.now in
    let now = g.T.StepSink.state c.loop-unit.sink in
    let none = ap (λ (ls : List Lit). claim_steps now.next (unit_claims c.args.id ls)) (drop_all c.loop-unit.unit-index us c.loop-unit-test.false) in
    subst (λ (ls : List Lit). TakesSteps (claim_steps old.next (unit_claims c.args.id ls)) old now) c.as_slice-unit-items.ensures (deriving_ends {all = claim_steps old.next (unit_claims c.args.id us)} (deriving_as none c.loop-unit.invariant.0))

pub loop-unit-preserved : goal.loop-unit-preserved
loop-unit-preserved g c =
    let us = c.as_slice-unit-items.result.now in
    let i = c.loop-unit.unit-index in
    let u = c.unit-item.result in
    let now = g.T.StepSink.state c.loop-unit.sink in
    let after = g.T.StepSink.state c.derive_propagated.new.sink in
    let taken = c.in_ok-derive_propagated.ensures in
    let ids : after.next ≡ now.next + 1 = taken.ids in
    let next : now.next + 1 ≡ after.next = omega (arith, ids) in
    let rest = units_left us i u c.loop-unit-test.true c.unit-item.is in (
      deriving_as (ap (λ (n : ℕ). claim_steps n (unit_claims c.args.id (drop (i + 1) us))) next)
          (deriving_step {left = claim_steps (now.next + 1) (unit_claims c.args.id (drop (i + 1) us))} (propagated now.next (c.args.id ∷ []) (u ∷ [])) after (here g (goal.at.loop-unit-preserved g c).After-derive_propagated) taken),
      omega (arith, ids, ap length rest, c.loop-unit.invariant.1),
    )
