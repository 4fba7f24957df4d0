use Rattle.std.proofs.Common.{◌≡◌, ◌+◌, ℕ, List, length, ap, sym, subst, arith}
use Rattle.pb_norm.specs.Constraints.{Weighted}
use Rattle.pb_steps.specs.declared.step.Step.{Step}
use Rattle.pb_steps.specs.declared.step.Step.TheVariants.{Pol}
use Rattle.pb_derive.specs.Claims.{claim_steps}
use Rattle.pb_family.specs.Families.{VarsBelow}
use Rattle.pb_family.proofs.Deriving.{deriving_as, deriving_from, deriving_step, steps_fault, steps_last}
use Rattle.pb_choice.specs.ConstraintSteps.{unit_claims}
use Rattle.pb_choice.specs.Reducing.{divisor, reducing}
use Rattle.pb_choice.specs.Residual.{left_steps}
use Rattle.pb_choice.proofs.PlanParts.{plan_steps, units_ids}
use Rattle.pb_choice.proofs.RestTerms.{rest_below, units_short}
use Rattle.pb_choice.proofs.plans.Plan.derive.Goals as goal

pub derive_units-requires : goal.derive_units-requires
derive_units-requires g c =
    let p = c.args.self.now in
    record { room = omega (arith, ap length p.units_are, units_short p.constraint.now, c.len.ensures.few, c.requires.few) }

pub returns-in_err-derive_units : goal.returns-in_err-derive_units
returns-in_err-derive_units g c =
    let p = c.args.self.now in
    let old = g.T.StepSink.state c.args.sink.now in
    let after = g.T.StepSink.state c.derive_units.new.sink in
    let whole = plan_steps p.options p.constraint.now p.units p.left c.args.first c.args.id old.next p.units_are p.left_is in
    steps_fault c.from_residual.result _ (claim_steps old.next (unit_claims c.args.id p.units)) (left_steps (Pol (reducing c.args.id p.units (divisor p.constraint.now))) p.left c.args.first c.args.id (old.next + length p.units)) after
    c.from_residual.ensures.1 (deriving_from old whole) c.in_err-derive_units.ensures

pub derive-requires : goal.derive-requires
derive-requires g c =
    let p = c.args.self.now in
    let old = g.T.StepSink.state c.args.sink.now in
    let next = c.in_ok-derive_units.ensures.ids in
    let ids = units_ids c.args.id old.next p.units in
    record {
      original = subst (λ (ts : List Weighted). VarsBelow c.args.first ts) (sym p.left_is.terms_are) (rest_below p.constraint.now c.args.first c.requires.original);
      low = c.requires.low;
      fits = omega (arith, c.requires.fits, p.left_is.fresh_is);
      few = omega (arith, next, ids, ap length p.units_are, units_short p.constraint.now, c.len.ensures.few, c.requires.few);
      given = omega (arith, next, ids, c.requires.known, c.requires.given);
    }

pub returns : goal.returns
returns g c =
    let p = c.args.self.now in
    let id = c.args.id in
    let old = g.T.StepSink.state c.args.sink.now in
    let mid = g.T.StepSink.state c.derive_units.new.sink in
    let after = g.T.StepSink.state c.derive.new.sink in
    let step : Step = Pol (reducing id p.units (divisor p.constraint.now)) in
    let left : ℕ → List Step = λ n. left_steps step p.left c.args.first id n in
    let whole = plan_steps p.options p.constraint.now p.units p.left c.args.first id old.next p.units_are p.left_is in
    let taken = c.in_ok-derive_units.ensures in
    let next : old.next + length p.units ≡ mid.next = omega (arith, taken.ids, units_ids id old.next p.units) in
    let here = deriving_as (ap left next) (deriving_step {left = left (old.next + length p.units)} (claim_steps old.next (unit_claims id p.units)) mid (deriving_from old whole) taken) in
    steps_last c.derive.result (left mid.next) after here c.derive.ensures
