-- The encoding of an equality, as it is kept. Our own.
use Rattle.std.specs.Prelude.{◌≡◌, ◌+◌, ℕ, pos, true, false, List}
use Rattle.pb_base.specs.declared.literal.Lit.{Lit}
use Rattle.pb_norm.specs.Constraints.{Constraint}
use Rattle.pb_norm.specs.Reduction.{first_coef}
use Rattle.pb_steps.specs.declared.step.Step.{Step}
use Rattle.pb_family.specs.Families.{VarsBelow}
use Rattle.pb_totalizer.specs.Exact.{exact_clauses, exact_fresh, exact_size}
use Rattle.pb_totalizer.specs.ExactSum.{exact_sum}
use Rattle.pb_choice.specs.declared.equal.EqualPlan.{EqualPlan}
use Rattle.pb_choice.specs.declared.equal.EqualPlan.TheVariants.{Joint, Split}
use Rattle.pb_base.specs.declared.options.Options.{Options}
use Rattle.pb_choice.specs.declared.plans.Plan.{Plan}
use Rattle.pb_choice.specs.Equals.{equality_clauses, equality_count, equality_fresh, is_joint, literals_asked}
use Rattle.pb_choice.specs.EqualitySteps.{equality_steps, joint_steps}
use Rattle.pb_choice.specs.HalfPlans.{halves_clauses, halves_steps, plan_count, plan_fresh}

-- ---- what it has

abbrev pub planned_clauses : EqualPlan → ℕ → List (List Lit)
planned_clauses (Joint exact a) first = exact_clauses (exact_sum exact) first
planned_clauses (Split l u) first = halves_clauses l u first

abbrev pub planned_fresh : EqualPlan → ℕ
planned_fresh (Joint exact a) = exact_fresh (exact_sum exact)
planned_fresh (Split l u) = plan_fresh l + plan_fresh u

abbrev pub planned_count : EqualPlan → ℕ
planned_count (Joint exact a) = exact_size (exact_sum exact)
planned_count (Split l u) = plan_count l + plan_count u

-- the first fresh variable, the ids of the lower half and of the upper one, and the next id
abbrev pub planned_steps : EqualPlan → ℕ → ℕ → ℕ → ℕ → List Step
planned_steps (Joint exact a) first low high next = joint_steps (exact_sum exact) a first low high next
planned_steps (Split l u) first low high next = halves_steps l u first low high next

-- it is over variables below a number
abbrev pub IsPlannedBelow : ℕ → EqualPlan → Type 0
IsPlannedBelow first (Joint exact a) = VarsBelow first (exact_sum exact).terms
IsPlannedBelow first (Split l u) = VarsBelow first l.constraint.now.terms × VarsBelow first u.constraint.now.terms

-- ---- of which equality it is

-- the plan of a constraint under some options
pub record IsPlanOf (o : Options) (c : Constraint) (p : Plan) : Type 0 where
  pub options_are : p.options ≡ o
  pub constraint_is : p.constraint.now ≡ c

-- as one exactly where the equality is encoded so, and else the plans of the two halves, the lower one first
abbrev pub IsEqualPlan : Options → Constraint → Constraint → EqualPlan → Type 0
IsEqualPlan o lower upper (Joint exact a) = (is_joint o lower ≡ true) × (exact_sum exact ≡ literals_asked lower) × (a ≡ pos (first_coef lower.terms))
IsEqualPlan o lower upper (Split l u) = (is_joint o lower ≡ false) × IsPlanOf o lower l × IsPlanOf o upper u

-- it has the numbers, clauses and steps of the equality
pub record HasPartsOf (o : Options) (lower upper : Constraint) (plan : EqualPlan) : Type 0 where
  pub fresh_is : planned_fresh plan ≡ equality_fresh o lower upper
  pub count_is : planned_count plan ≡ equality_count o lower upper
  pub clauses_are : (first : ℕ) → planned_clauses plan first ≡ equality_clauses o lower upper first
  pub steps_are : (first low high next : ℕ) → planned_steps plan first low high next ≡ equality_steps o lower upper first low high next
  pub below : (first : ℕ) → VarsBelow first lower.terms → VarsBelow first upper.terms → IsPlannedBelow first plan
