use Rattle.std.proofs.Common.{◌≡◌, subst}
use Rattle.std.specs.Prelude.{IfSome}
use Rattle.pb_base.specs.declared.options.Options.{Options}
use Rattle.pb_encode.specs.declared.groups.Group.{Group}
use Rattle.pb_encode.specs.declared.groups.Group.TheVariants.{Alone, Paired}
use Rattle.pb_encode.specs.declared.group_plan.GroupPlan.TheVariants as plan
use Rattle.pb_encode.specs.inner.GroupPlans.{IsGroupPlan}
use Rattle.pb_encode.specs.inner.Hints.{IsToldOf}
use Rattle.pb_encode.proofs.hints.tells_of.Goals as goal

pub returns-in-Some : goal.returns-in-Some
returns-in-Some c = by_group
  where
    is : c.args.plan ≡ plan.Alone c.in-Some.plan
    is = rw c.in-Some.is at c.into_alone.ensures

    by_group : (o : Options) (g : Group) → IsGroupPlan o g c.args.plan → IfSome c.diagram_of.result (IsToldOf o g)
    by_group o (Alone d) planned = c.diagram_of.ensures o d (subst (IsGroupPlan o (Alone d)) is planned)
    by_group o (Paired d e) planned = absurd (subst (IsGroupPlan o (Paired d e)) is planned)
