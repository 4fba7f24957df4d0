use Rattle.std.proofs.Common.{subst}
use Rattle.pb_norm.specs.Constraints.{Constraint}
use Rattle.pb_base.specs.declared.options.Options.{Options}
use Rattle.pb_choice.specs.Choice.{IsSentToAdder}
use Rattle.pb_choice.specs.EqualPlans.{IsEqualPlan}
use Rattle.pb_encode.proofs.hints.are_halves_adders.Goals as goal

pub returns-then-is_adder : goal.returns-then-is_adder
returns-then-is_adder c = λ o lower upper planned yes.
    let is = subst (IsEqualPlan o lower upper) c.in-Split.is planned in (
      is.0,
      subst (λ (q : Options). IsSentToAdder q lower) is.1.options_are (subst (λ (e : Constraint). IsSentToAdder c.in-Split.lower.options e) is.1.constraint_is (c.is_adder.ensures c.if-is_adder.true)),
      subst (λ (q : Options). IsSentToAdder q upper) is.2.options_are (subst (λ (e : Constraint). IsSentToAdder c.in-Split.upper.options e) is.2.constraint_is (c.is_adder-then-is_adder.ensures yes)),
    )
