-- The encoding of a group of constraints, as it is kept.
use Rattle.std.specs.Prelude.{ℕ, ◌+◌, ◌≤◌, ◌<◌, ◌^◌, List}
use Rattle.pb_base.specs.declared.literal.Lit.{Lit}
use Rattle.pb_norm.specs.Constraints.{weight}
use Rattle.pb_steps.specs.declared.step.Step.{Step}
use Rattle.pb_family.specs.Families.{VarsBelow}
use Rattle.pb_base.specs.declared.options.Options.{Options}
use Rattle.pb_choice.specs.Clauses.{constraint_clauses, constraint_count, constraint_fresh}
use Rattle.pb_choice.specs.ConstraintSteps.{constraint_steps}
use Rattle.pb_choice.specs.EqualPlans.{planned_clauses, planned_count, planned_fresh, planned_steps, HasPartsOf, IsEqualPlan, IsPlannedBelow, IsPlanOf}
use Rattle.pb_encode.specs.Groups.{group_count, group_fresh, group_size}
use Rattle.pb_encode.specs.declared.group_plan.GroupPlan.{GroupPlan}
use Rattle.pb_encode.specs.declared.group_plan.GroupPlan.TheVariants as plan
use Rattle.pb_encode.specs.declared.groups.Group.{Group}
use Rattle.pb_encode.specs.declared.groups.Group.TheVariants.{Alone, Paired}

-- ---- what it has

abbrev pub plan_clauses : GroupPlan → ℕ → List (List Lit)
plan_clauses (plan.Alone p) first = constraint_clauses p.options p.constraint.now first
plan_clauses (plan.Paired p) first = planned_clauses p.value first

abbrev pub plan_fresh : GroupPlan → ℕ
plan_fresh (plan.Alone p) = constraint_fresh p.options p.constraint.now
plan_fresh (plan.Paired p) = planned_fresh p.value

abbrev pub plan_count : GroupPlan → ℕ
plan_count (plan.Alone p) = constraint_count p.options p.constraint.now
plan_count (plan.Paired p) = planned_count p.value

abbrev pub plan_size : GroupPlan → ℕ
plan_size (plan.Alone p) = 1
plan_size (plan.Paired p) = 2

-- the first fresh variable, the id of the first constraint, and the next id
abbrev pub plan_steps : GroupPlan → ℕ → ℕ → ℕ → List Step
plan_steps (plan.Alone p) first id next = constraint_steps p.options p.constraint.now first id next
plan_steps (plan.Paired p) first id next = planned_steps p.value first id (id + 1) next

-- it is over variables below a number
abbrev pub IsPlanBelow : ℕ → GroupPlan → Type 0
IsPlanBelow first (plan.Alone p) = VarsBelow first p.constraint.now.terms
IsPlanBelow first (plan.Paired p) = IsPlannedBelow first p.value

-- ---- of which group it is

abbrev pub IsGroupPlan : Options → Group → GroupPlan → Type 0
IsGroupPlan o (Alone c) (plan.Alone p) = IsPlanOf o c p
IsGroupPlan o (Alone c) (plan.Paired p) = ⊥
IsGroupPlan o (Paired c d) (plan.Alone p) = ⊥
IsGroupPlan o (Paired c d) (plan.Paired p) = IsEqualPlan o c d p.value × HasPartsOf o c d p.value

-- ---- what is asked of a group

-- the numbers are small
abbrev pub IsLightGroup : Group → Type 0
IsLightGroup (Alone c) = weight c.terms < 2 ^ 100
IsLightGroup (Paired c d) = (weight c.terms < 2 ^ 100) × (weight d.terms < 2 ^ 100)

-- it is over variables below a number
abbrev pub IsGroupBelow : ℕ → Group → Type 0
IsGroupBelow first (Alone c) = VarsBelow first c.terms
IsGroupBelow first (Paired c d) = VarsBelow first c.terms × VarsBelow first d.terms

pub record IsSound (first : ℕ) (g : Group) : Type 0 where
  pub light : IsLightGroup g
  pub below : IsGroupBelow first g

-- Its fresh variables, clauses and ids are within their bounds, and its constraints, which stand under neighbouring ids, come before the next id.
pub record HasTurn (fresh count size first id next : ℕ) : Type 0 where
  pub fits : first + fresh ≤ 2 ^ 31
  pub counted : count ≤ 2 ^ 56
  pub known : id + size ≤ next
  pub few : next ≤ 2 ^ 60

abbrev pub HasGroupTurn : Options → Group → ℕ → ℕ → ℕ → Type 0
HasGroupTurn o g first id next = HasTurn (group_fresh o g) (group_count o g) (group_size g) first id next

abbrev pub HasPlanTurn : GroupPlan → ℕ → ℕ → ℕ → Type 0
HasPlanTurn p first id next = HasTurn (plan_fresh p) (plan_count p) (plan_size p) first id next
