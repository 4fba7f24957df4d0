-- The models of a problem's clauses have the values of its objective as their costs.
use Rattle.std.proofs.Common.{◌≡◌, ◌<◌, ◌≤◌, ◌+◌, ◌^◌, ℕ, Bool, List, [], ◌∷◌, All, cond, length, take, refl, sym, ap, ◌∙◌, arith, ℤ, pos, ◌+ℤ◌, Option, Some, None}
use Rattle.std.specs.Option.{MatchOption, unwrap_or}
use Rattle.std.proofs.lemmas.List.{length-take}
use Rattle.std.proofs.lemmas.List.Elements.{All-head, All-nil, All-tail, All-weaker}
use Rattle.pb_base.specs.declared.literal.Term.{Term}
use Rattle.pb_base.specs.declared.problem.Problem.{Problem}
use Rattle.pb_base.specs.Literals.{Assignment, AgreeBelow, assigned_by, lit_value}
use Rattle.pb_base.specs.Problems.{IsSumWithin, IsWithinLimits, magnitude, objective_terms, originals, sum_value, widened}
use Rattle.pb_base.proofs.Members.{All-append_both}
use Rattle.pb_norm.specs.Constraints.{Holds}
use Rattle.pb_norm.specs.Halves.{loaded}
use Rattle.pb_norm.specs.Products.{defining}
use Rattle.pb_norm.proofs.Agreement.{cut-agrees, lit_value-agree}
use Rattle.pb_norm.proofs.Solutions.{all_widened}
use Rattle.pb_base.specs.declared.options.Options.{Options}
use Rattle.pb_encode.specs.Clauses.{problem_clauses, problem_vars}
use Rattle.pb_encode.specs.Models.{IsModelOver}
use Rattle.pb_encode.specs.Weighted.{HasCostsOf}
use Rattle.pb_encode.proofs.CostLemmas.{costs_add_up}
use Rattle.pb_encode.proofs.Solutions.{cut_twice, have_solutions, loaded_ready, solves_from}

-- a sum has one value under assignments that agree on its variables
sum_agree : (n : ℕ) (a b : Assignment) → AgreeBelow n a b → (ts : List Term) → All (λ t. t.lit.var < n) ts → sum_value a ts ≡ sum_value b ts
sum_agree n a b agree [] below = refl
sum_agree n a b agree (t ∷ ts) below =
    let here = lit_value-agree a b t.lit (agree t.lit.var (All-head (λ (u : Term). u.lit.var < n) t ts below)) in
    let rest = sum_agree n a b agree ts (All-tail (λ (u : Term). u.lit.var < n) t ts below) in
    ap (λ (v : Bool). cond v t.coef (pos 0) +ℤ sum_value a ts) here ∙ ap (λ (z : ℤ). cond (lit_value b t.lit) t.coef (pos 0) +ℤ z) rest

pub terms_below : (vars : ℕ) (o : Option (List Term)) → MatchOption o (Unit {0}) (λ ts. IsSumWithin vars ts × (magnitude ts < 2 ^ 100)) → All (λ t. t.lit.var < vars + 1) (unwrap_or o [])
terms_below vars None h = All-nil (λ (t : Term). t.lit.var < vars + 1)
terms_below vars (Some ts) h = All-weaker (λ (t : Term). t.lit.var ≤ vars) (λ (t : Term). t.lit.var < vars + 1) (λ t k. omega (arith, k)) ts h.0.vars_within

-- the first values of a model are those of its cut, and of the products
pub front_is_widened : (o : Options) (p : Problem) → IsWithinLimits p → (model : List Bool) → IsModelOver (problem_vars o p) (problem_clauses o p) model → take (originals p) model ≡ widened p (take p.vars model)
front_is_widened o p within model is =
    let all = take (originals p) model in
    let long : length model ≡ problem_vars o p = is.covers in
    let solves = solves_from o p (loaded_ready o p within) model is in
    let products = (All-append_both (Holds (assigned_by all)) (defining (p.vars + 1) p.products) (loaded p.statements) solves).0 in
    all_widened p within.products all (omega (arith, length-take (originals p) model, long)) products ∙ ap (widened p) (cut_twice p model)

-- the objective's value under a model is that of its cut
pub objective_agrees : (o : Options) (p : Problem) → IsWithinLimits p → (model : List Bool) → IsModelOver (problem_vars o p) (problem_clauses o p) model
    → sum_value (assigned_by (widened p (take p.vars model))) (objective_terms p) ≡ sum_value (assigned_by model) (objective_terms p)
objective_agrees o p within model is =
    let n = originals p in
    ap (λ (values : List Bool). sum_value (assigned_by values) (objective_terms p)) (sym (front_is_widened o p within model is))
    ∙ sym (sum_agree (n + 1) (assigned_by model) (assigned_by (take n model)) (cut-agrees model n) (objective_terms p) (terms_below n p.objective within.objective))

pub models_have_costs : (o : Options) (p : Problem) → IsWithinLimits p → HasCostsOf o p
models_have_costs o p within = record {
  solutions = have_solutions o p within;
  costs = λ model is. objective_agrees o p within model is ∙ costs_add_up p (assigned_by model) within;
}
