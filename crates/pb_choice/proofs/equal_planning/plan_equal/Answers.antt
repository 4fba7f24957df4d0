use Rattle.std.proofs.Common.{rules, FitsSigned, to_z, of_z, true, false, ◌≡◌, ◌∙◌, subst}
use mir.Syntax.{w128}
use Rattle.std.specs.Prelude.{Option}
use Rattle.std.specs.Option.{MatchOption}
use Rattle.std.proofs.lemmas.Int.{to_z-of_z}
use Rattle.pb_totalizer.specs.ExactSum.{exact_sum}
use Rattle.pb_totalizer.specs.declared.exact.Exact.{Exact}
use Rattle.pb_choice.specs.Equals.{is_joint, literals_asked}
use Rattle.pb_choice.specs.declared.equal.EqualPlan.TheVariants.{Joint}
use Rattle.pb_choice.specs.EqualPlans.{IsEqualPlan}
use Rattle.pb_choice.proofs.EqualSelection.{equal_parts}
use Rattle.pb_choice.proofs.equal_planning.plan_equal.Goals as goal

pub returns-in-Some : goal.returns-in-Some
returns-in-Some c =
    let o = c.args.options.now in
    let d = c.args.lower.now in
    let joint = subst (λ (found : Option Exact). MatchOption found (is_joint o d ≡ false) (λ exact. (is_joint o d ≡ true) × (exact_sum exact ≡ literals_asked d))) c.in-Some.is c.in_ok-exact.ensures in
    let a = c.coef_of-a.result in
    let fits : FitsSigned w128 a = search rules in
    let plan = Joint c.in-Some.exact (to_z w128 (of_z w128 a)) in
    let choice : IsEqualPlan o d c.args.upper.now plan = (joint.0, joint.1, to_z-of_z w128 a fits ∙ c.coef_of-a.ensures) in
    record { choice = choice; parts = equal_parts o d c.args.upper.now plan choice }

pub plan_halves-requires-clause-split : goal.plan_halves-requires-clause-split
plan_halves-requires-clause-split c =
    let o = c.args.options.now in
    let d = c.args.lower.now in
    subst (λ (found : Option Exact). MatchOption found (is_joint o d ≡ false) (λ exact. (is_joint o d ≡ true) × (exact_sum exact ≡ literals_asked d))) c.in-None.is c.in_ok-exact.ensures
