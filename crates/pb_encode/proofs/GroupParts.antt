-- The plan of a group has the numbers, clauses and steps of the group.
use Rattle.std.proofs.Common.{◌≡◌, ◌≤◌, ◌<◌, ◌+◌, ℕ, refl, sym, subst, arith}
use Rattle.std.proofs.lemmas.List.Elements.{All-weaker}
use Rattle.pb_norm.specs.Constraints.{Constraint, Weighted}
use Rattle.pb_family.specs.Families.{VarsBelow}
use Rattle.pb_base.specs.declared.options.Options.{Options}
use Rattle.pb_choice.specs.Clauses.{constraint_clauses, constraint_count, constraint_fresh}
use Rattle.pb_choice.specs.ConstraintSteps.{constraint_steps}
use Rattle.pb_encode.specs.declared.group_plan.GroupPlan.{GroupPlan}
use Rattle.pb_encode.specs.declared.group_plan.GroupPlan.TheVariants as plan
use Rattle.pb_encode.specs.declared.groups.Group.{Group}
use Rattle.pb_encode.specs.declared.groups.Group.TheVariants.{Alone, Paired}
use Rattle.pb_encode.specs.Groups.{group_clauses, group_count, group_fresh, group_size, group_steps}
use Rattle.pb_encode.specs.inner.GroupPlans.{plan_clauses, plan_count, plan_fresh, plan_size, plan_steps, IsGroupBelow, IsGroupPlan, IsPlanBelow, IsSound}

pub record HasGroupParts (o : Options) (g : Group) (p : GroupPlan) : Type 0 where
  pub fresh_is : plan_fresh p ≡ group_fresh o g
  pub count_is : plan_count p ≡ group_count o g
  pub size_is : plan_size p ≡ group_size g
  pub clauses_are : (first : ℕ) → plan_clauses p first ≡ group_clauses o g first
  pub steps_are : (first id next : ℕ) → plan_steps p first id next ≡ group_steps o g first id next
  pub below : (first : ℕ) → IsGroupBelow first g → IsPlanBelow first p

pub parts_of : (o : Options) (g : Group) (p : GroupPlan) → IsGroupPlan o g p → HasGroupParts o g p
parts_of o (Alone c) (plan.Alone p) is = record {
  fresh_is = λ i. constraint_fresh (is.options_are i) (is.constraint_is i);
  count_is = λ i. constraint_count (is.options_are i) (is.constraint_is i);
  size_is = refl;
  clauses_are = λ first i. constraint_clauses (is.options_are i) (is.constraint_is i) first;
  steps_are = λ first id next i. constraint_steps (is.options_are i) (is.constraint_is i) first id next;
  below = λ first h. subst (λ (d : Constraint). VarsBelow first d.terms) (sym is.constraint_is) h;
}
parts_of o (Alone c) (plan.Paired p) is = absurd is
parts_of o (Paired c d) (plan.Alone p) is = absurd is
parts_of o (Paired c d) (plan.Paired p) is = record {
  fresh_is = is.1.fresh_is;
  count_is = is.1.count_is;
  size_is = refl;
  clauses_are = is.1.clauses_are;
  steps_are = λ first id next. is.1.steps_are first id (id + 1) next;
  below = λ first h. is.1.below first h.0 h.1;
}

-- ---- below greater numbers

vars_later : (first next : ℕ) (c : Constraint) → first ≤ next → VarsBelow first c.terms → VarsBelow next c.terms
vars_later first next c le below = All-weaker (λ (t : Weighted). t.lit.var < first) (λ (t : Weighted). t.lit.var < next) (λ t h. omega (arith, h, le)) c.terms below

below_later : (first next : ℕ) (g : Group) → first ≤ next → IsGroupBelow first g → IsGroupBelow next g
below_later first next (Alone c) le below = vars_later first next c le below
below_later first next (Paired c d) le below = (vars_later first next c le below.0, vars_later first next d le below.1)

pub sound_later : (first next : ℕ) (g : Group) → first ≤ next → IsSound first g → IsSound next g
sound_later first next g le sound = record { light = sound.light; below = below_later first next g le sound.below }
