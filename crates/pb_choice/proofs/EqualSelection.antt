-- The plan of an equality has its numbers, clauses and steps.
use Rattle.std.proofs.Common.{◌≡◌, ◌<◌, ◌+◌, ◌++◌, ℕ, ℤ, true, false, pos, List, sym, ap, ◌∙◌, subst}
use Rattle.std.proofs.lemmas.Bool.{cond-false, cond-true}
use Rattle.pb_base.specs.declared.literal.Lit.{Lit}
use Rattle.pb_norm.specs.BoundedSums.{BoundedSum}
use Rattle.pb_norm.specs.Constraints.{Constraint}
use Rattle.pb_norm.specs.Reduction.{first_coef}
use Rattle.pb_steps.specs.declared.step.Step.{Step}
use Rattle.pb_derive.specs.FollowedBy.{followed_by}
use Rattle.pb_family.specs.Families.{VarsBelow}
use Rattle.pb_totalizer.specs.declared.exact.Exact.{Exact}
use Rattle.pb_totalizer.specs.Exact.{exact_clauses, exact_fresh, exact_size}
use Rattle.pb_totalizer.specs.ExactSum.{exact_sum}
use Rattle.pb_choice.specs.declared.equal.EqualPlan.{EqualPlan}
use Rattle.pb_choice.specs.declared.equal.EqualPlan.TheVariants.{Joint, Split}
use Rattle.pb_base.specs.declared.options.Options.{Options}
use Rattle.pb_choice.specs.declared.plans.Plan.{Plan}
use Rattle.pb_choice.specs.Clauses.{constraint_clauses, constraint_count, constraint_fresh}
use Rattle.pb_choice.specs.ConstraintSteps.{constraint_steps}
use Rattle.pb_choice.specs.Equals.{is_joint, literals_asked}
use Rattle.pb_choice.specs.EqualitySteps.{joint_steps}
use Rattle.pb_choice.specs.EqualPlans.{HasPartsOf, IsEqualPlan, IsPlanOf}
use Rattle.pb_choice.proofs.JointSums.{ones_over}

module _ (o : Options) (c d : Constraint) where
  -- ---- half by half

  abbrev clauses_by : Options → Constraint → Options → Constraint → ℕ → List (List Lit)
  clauses_by p e q f first = constraint_clauses p e first ++ constraint_clauses q f (first + constraint_fresh p e)

  abbrev steps_by : Options → Constraint → Options → Constraint → ℕ → ℕ → ℕ → ℕ → List Step
  steps_by p e q f first low high next = followed_by (constraint_steps p e first low) (constraint_steps q f (first + constraint_fresh p e) high) next

  -- what is made of the parts of two plans is made of the halves
  of_halves : {T : Type 0} (make : Options → Constraint → Options → Constraint → T) (l u : Plan) → IsPlanOf o c l → IsPlanOf o d u → make l.options l.constraint.now u.options u.constraint.now ≡ make o c o d
  of_halves make l u lower upper = λ i. make (lower.options_are i) (lower.constraint_is i) (upper.options_are i) (upper.constraint_is i)

  split_parts : (l u : Plan) → is_joint o c ≡ false → IsPlanOf o c l → IsPlanOf o d u → HasPartsOf o c d (Split l u)
  split_parts l u other lower upper = record {
    fresh_is = of_halves (λ p e q f. constraint_fresh p e + constraint_fresh q f) l u lower upper ∙ sym (cond-false (is_joint o c) (exact_fresh (literals_asked c)) (constraint_fresh o c + constraint_fresh o d) other);
    count_is = of_halves (λ p e q f. constraint_count p e + constraint_count q f) l u lower upper ∙ sym (cond-false (is_joint o c) (exact_size (literals_asked c)) (constraint_count o c + constraint_count o d) other);
    clauses_are = λ first. of_halves (λ p e q f. clauses_by p e q f first) l u lower upper ∙ sym (cond-false (is_joint o c) (exact_clauses (literals_asked c) first) (clauses_by o c o d first) other);
    steps_are = λ first low high next.
        of_halves (λ p e q f. steps_by p e q f first low high next) l u lower upper
        ∙ sym (cond-false (is_joint o c) (joint_steps (literals_asked c) (pos (first_coef c.terms)) first low high next) (steps_by o c o d first low high next) other);
    below = λ first under above. (
      subst (λ (e : Constraint). VarsBelow first e.terms) (sym lower.constraint_is) under,
      subst (λ (e : Constraint). VarsBelow first e.terms) (sym upper.constraint_is) above,
    );
  }

  -- ---- as one

  joint_parts : (exact : Exact) (a : ℤ) → is_joint o c ≡ true → exact_sum exact ≡ literals_asked c → a ≡ pos (first_coef c.terms) → HasPartsOf o c d (Joint exact a)
  joint_parts exact a is sum coef = record {
    fresh_is = ap exact_fresh sum ∙ sym (cond-true (is_joint o c) (exact_fresh (literals_asked c)) (constraint_fresh o c + constraint_fresh o d) is);
    count_is = ap exact_size sum ∙ sym (cond-true (is_joint o c) (exact_size (literals_asked c)) (constraint_count o c + constraint_count o d) is);
    clauses_are = λ first.
        ap (λ (m : BoundedSum). exact_clauses m first) sum ∙ sym (cond-true (is_joint o c) (exact_clauses (literals_asked c) first) (clauses_by o c o d first) is);
    steps_are = λ first low high next.
        (λ i. joint_steps (sum i) (coef i) first low high next)
        ∙ sym (cond-true (is_joint o c) (joint_steps (literals_asked c) (pos (first_coef c.terms)) first low high next) (steps_by o c o d first low high next) is);
    below = λ first under above. subst (λ (m : BoundedSum). VarsBelow first m.terms) (sym sum) (ones_over (λ v. v < first) c.terms under);
  }

  pub equal_parts : (plan : EqualPlan) → IsEqualPlan o c d plan → HasPartsOf o c d plan
  equal_parts (Joint exact a) is = joint_parts exact a is.0 is.1 is.2
  equal_parts (Split l u) is = split_parts l u is.0 is.1 is.2
