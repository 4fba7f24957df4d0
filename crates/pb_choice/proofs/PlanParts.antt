-- The clauses and the steps of a plan are those of its constraint: the units', and then its rest's. How many ids the steps take.
use Rattle.std.proofs.Common.{◌≡◌, ◌≤◌, ◌+◌, ◌*◌, ◌++◌, ℕ, Bool, cond, List, [], ◌∷◌, length, map, refl, ap, sym, ◌∙◌, arith}
use Rattle.std.specs.Prelude.{count_by, IsTrue}
use Rattle.std.proofs.lemmas.List.Sums.{count_by-le-length, sum_by-append, sum_by-cons}
use Rattle.pb_base.specs.declared.literal.Lit.{Lit}
use Rattle.pb_norm.specs.Constraints.{Constraint}
use Rattle.pb_norm.specs.Reduction.{rest_of, units_of}
use Rattle.pb_steps.specs.declared.step.Step.{Step}
use Rattle.pb_steps.specs.declared.step.Step.TheVariants.{Pol, Out}
use Rattle.pb_steps.specs.Steps.{takes_id}
use Rattle.pb_derive.specs.Claims.{claim_steps}
use Rattle.pb_derive.specs.Rups.{by_rup}
use Rattle.pb_base.specs.declared.options.Options.{Options}
use Rattle.pb_choice.specs.declared.plans.Plan.{Plan}
use Rattle.pb_choice.specs.declared.residual.Residual.{Residual}
use Rattle.pb_choice.specs.Choice.{treatment_of}
use Rattle.pb_choice.specs.Clauses.{constraint_clauses, rest_clauses, unit_clause}
use Rattle.pb_choice.specs.ConstraintSteps.{constraint_steps, unit_claims}
use Rattle.pb_choice.specs.HalfPlans.{plan_count, plan_fresh, plan_steps as steps_of}
use Rattle.pb_choice.specs.Reducing.{core_ops, divisor, reducing}
use Rattle.pb_choice.specs.Residual.{IsLeft, left_clauses, left_steps}
use Rattle.pb_choice.proofs.FamilyCounts.{left_lines}

pub plan_clauses : (o : Options) (c : Constraint) (units : List Lit) (left : Residual) (first : ℕ) → units ≡ units_of c → IsLeft o (rest_of c) left → constraint_clauses o c first ≡ map unit_clause units ++ left_clauses left first
plan_clauses o c units left first are h =
    sym (ap (λ (cs : List (List Lit)). map unit_clause units ++ cs) (h.clauses_are first)
    ∙ ap (λ (ls : List Lit). map unit_clause ls ++ rest_clauses (treatment_of o (rest_of c)) (rest_of c) first) are)

pub plan_steps : (o : Options) (c : Constraint) (units : List Lit) (left : Residual) (first id next : ℕ) → units ≡ units_of c → IsLeft o (rest_of c) left
    → constraint_steps o c first id next ≡ claim_steps next (unit_claims id units) ++ left_steps (Pol (reducing id units (divisor c))) left first id (next + length units)
plan_steps o c units left first id next are h =
    sym (ap (λ (us : List Lit). claim_steps next (unit_claims id us) ++ left_steps (Pol (reducing id us (divisor c))) left first id (next + length us)) are
    ∙ ap (λ (ss : List Step). claim_steps next (unit_claims id (units_of c)) ++ ss) (h.steps_are (Pol (core_ops c id)) first id (next + length (units_of c))))

-- ---- ids

pub one_id : (s : Step) → IsTrue (takes_id s) → count_by takes_id (s ∷ []) ≡ 1
one_id s takes = ap (λ (b : Bool). 0 + cond b 1 0) takes

-- each unit takes an id
pub units_ids : (id next : ℕ) (us : List Lit) → count_by takes_id (claim_steps next (unit_claims id us)) ≡ length us
units_ids id next [] = refl
units_ids id next (l ∷ us) =
    let bit : Step → ℕ = λ s. cond (takes_id s) 1 0 in
    let claim : Step = (by_rup (id ∷ []) (unit_clause l)).step in
    let more : List Step = claim_steps (next + 1) (unit_claims id us) in
    omega (arith, sum_by-cons bit claim (Out next ∷ more), sum_by-cons bit (Out next) more, units_ids id (next + 1) us)

pub plan_ids : (p : Plan) (first id next : ℕ) → count_by takes_id (steps_of p first id next) ≤ 8 * (plan_fresh p + plan_count p) + 2
plan_ids p first id next =
    let step : Step = Pol (reducing id p.units (divisor p.constraint.now)) in
    let front : List Step = claim_steps next (unit_claims id p.units) in
    let back : List Step = left_steps step p.left first id (next + length p.units) in
    let whole = plan_steps p.options p.constraint.now p.units p.left first id next p.units_are p.left_is in
    omega (
      arith,
      ap (λ (ss : List Step). count_by takes_id ss) whole,
      sum_by-append (λ (s : Step). cond (takes_id s) 1 0) front back,
      units_ids id next p.units,
      count_by-le-length takes_id back,
      left_lines p.left step first id (next + length p.units),
      ap length p.units_are,
      p.left_is.fresh_is,
      p.left_is.count_is,
    )
