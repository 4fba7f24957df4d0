use Rattle.std.proofs.Common.{rules, ◌≡◌, ◌∙◌, ◌≤ℤ◌, neg_ℤ, pos, List, Bool, ap, sym, subst, ℤ, length}
use Rattle.std.proofs.Math.Seq.{take-length}
use Rattle.pb_base.specs.declared.literal.Term.{Term}
use Rattle.pb_base.specs.Literals.{assigned_by}
use Rattle.pb_base.specs.Problems.{magnitude, objective_terms, sum_value, widened}
use Rattle.pb_model.proofs.Sums.{sum_take_bounds}
use Rattle.pb_model.proofs.solution.objective_of.Goals as goal

value : (c : goal.After-sum_of) → c.sum_of.result ≡ sum_value (assigned_by (widened c.args.problem.now c.args.values.now)) (objective_terms c.args.problem.now)
value c =
    let terms : c.as_slice-in-Some.result.now ≡ objective_terms c.args.problem.now = search rules in
    c.sum_of.ensures ∙ ap (λ (vs : List Bool). sum_value (assigned_by vs) c.as_slice-in-Some.result.now) c.new.ensures
    ∙ ap (λ (ts : List Term). sum_value (assigned_by (widened c.args.problem.now c.as_slice.result.now)) ts) terms
    ∙ ap (λ (vs : List Bool). sum_value (assigned_by (widened c.args.problem.now vs)) (objective_terms c.args.problem.now)) c.as_slice.ensures

pub returns-in-Some-clause-value : goal.returns-in-Some-clause-value
returns-in-Some-clause-value c = let is = value c in search rules

pub returns-in-Some-clause-low : goal.returns-in-Some-clause-low
returns-in-Some-clause-low c =
    let a = assigned_by (widened c.args.problem.now c.args.values.now) in
    let ts : List Term = objective_terms c.args.problem.now in
    let low = subst (λ (xs : List Term). neg_ℤ (pos (magnitude ts)) ≤ℤ sum_value a xs) (take-length ts) (sum_take_bounds a ts (length ts)).1 in
    let bound : neg_ℤ (pos (magnitude ts)) ≤ℤ c.sum_of.result = subst (λ (z : ℤ). neg_ℤ (pos (magnitude ts)) ≤ℤ z) (sym (value c)) low in
    search rules

pub returns-in-Some-clause-high : goal.returns-in-Some-clause-high
returns-in-Some-clause-high c =
    let a = assigned_by (widened c.args.problem.now c.args.values.now) in
    let ts : List Term = objective_terms c.args.problem.now in
    let high = subst (λ (xs : List Term). sum_value a xs ≤ℤ pos (magnitude ts)) (take-length ts) (sum_take_bounds a ts (length ts)).0 in
    let bound : c.sum_of.result ≤ℤ pos (magnitude ts) = subst (λ (z : ℤ). z ≤ℤ pos (magnitude ts)) (sym (value c)) high in
    search rules
