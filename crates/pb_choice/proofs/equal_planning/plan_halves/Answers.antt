use Rattle.pb_choice.specs.declared.equal.EqualPlan.TheVariants.{Split}
use Rattle.pb_choice.specs.EqualPlans.{IsEqualPlan}
use Rattle.pb_choice.proofs.EqualSelection.{equal_parts}
use Rattle.pb_choice.proofs.equal_planning.plan_halves.Goals as goal

pub returns : goal.returns
returns c =
    let one = c.in_ok-one.ensures in
    let other = c.in_ok-other.ensures in
    let plan = Split c.in_ok-one.one c.in_ok-other.other in
    let choice : IsEqualPlan c.args.options.now c.args.lower.now c.args.upper.now plan = (
      c.requires.split,
      record { options_are = one.options; constraint_is = one.constraint },
      record { options_are = other.options; constraint_is = other.constraint },
    ) in
    record { choice = choice; parts = equal_parts c.args.options.now c.args.lower.now c.args.upper.now plan choice }
