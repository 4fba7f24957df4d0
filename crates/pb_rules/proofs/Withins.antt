-- The variables of what is made are within those that there are.
use Rattle.std.proofs.Common.{◌≤◌, ℕ, ℤ, List, [], ◌∷◌, Bool, true, false, cond, arith}
use Rattle.std.specs.Prelude.{All, map, filter}
use Rattle.std.proofs.lemmas.List.Elements.{All-nil, All-cons, All-head, All-tail, All-map, All-filter}
use Rattle.pb_base.specs.declared.literal.Term.{Term}
use Rattle.pb_norm.specs.Constraints.{Weighted, Constraint, weight}
use Rattle.pb_norm.specs.Halves.{written}
use Rattle.pb_norm.specs.Reduction.{opposite}
use Rattle.pb_norm.proofs.Variables.{normal_terms-vars}
use Rattle.pb_norm.proofs.WrittenForm.{normal_terms-weight, normal_degree-le}
use Rattle.pb_operations.proofs.Parts.{narrow-from, weight-narrow, degree-narrow}
use Rattle.pb_norm.specs.Constraints.{HasVarsWithin}
use Rattle.pb_steps.specs.Steps.{vars_of_terms}
use Rattle.pb_steps.specs.Operations.{IsNarrow, negation}
use Rattle.pb_steps.specs.Allowed.{IsSlim}
use Rattle.std.proofs.lemmas.List.Sums.{sum_by-le-sum_by}
use Rattle.pb_base.proofs.Sums.{sum_by-filter}
use Rattle.pb_steps.specs.declared.op.Set.{Set}
use Rattle.pb_steps.specs.Substitutions.{restriction, is_unset}

pub All-unmap : {X Y : Type 0} (P : Y → Type 0) (f : X → Y) (xs : List X) → All P (map f xs) → All (λ x. P (f x)) xs
All-unmap P f [] h = All-nil (λ x. P (f x))
All-unmap P f (x ∷ xs) h = All-cons (λ x. P (f x)) x xs (All-head P (f x) (map f xs) h) (All-unmap P f xs (All-tail P (f x) (map f xs) h))

-- a written constraint over known variables, with room
pub written-within : (vars : ℕ) (ts : List Term) (right : ℤ) → All (λ v. v ≤ vars) (vars_of_terms ts) → HasVarsWithin vars (written ts right).terms
written-within vars ts right h = normal_terms-vars (λ v. v ≤ vars) ts (All-unmap {X = Term} (λ v. v ≤ vars) (λ t. t.lit.var) ts h)

pub written-narrow : (ts : List Term) (right : ℤ) → IsSlim ts right → IsNarrow (written ts right)
written-narrow ts right h = narrow-from (written ts right) (omega (arith, normal_terms-weight ts, h)) (omega (arith, normal_degree-le ts right, h))

pub negation-within : (vars : ℕ) (c : Constraint) → HasVarsWithin vars c.terms → HasVarsWithin vars (negation c).terms
negation-within vars c h = All-map {X = Weighted} (λ t. t.lit.var ≤ vars) opposite c.terms h

-- ---- restriction

weight-kept : (p : Weighted → Bool) (ts : List Weighted) → weight (filter p ts) ≤ weight ts
weight-kept p ts = omega (arith, sum_by-filter {X = Weighted} (λ t. t.coef) p ts, sum_by-le-sum_by {X = Weighted} (λ t. cond (p t) t.coef 0) (λ t. t.coef) ts (λ t. kept (p t) t.coef)) where
  kept : (b : Bool) (k : ℕ) → cond b k 0 ≤ k
  kept true k = omega arith
  kept false k = omega arith

pub restriction-narrow : (sets : List Set) (c : Constraint) → IsNarrow c → IsNarrow (restriction sets c)
restriction-narrow sets c h = narrow-from (restriction sets c) (omega (arith, weight-kept (is_unset sets) c.terms, weight-narrow c h)) (omega (arith, degree-narrow c h))

pub restriction-within : (vars : ℕ) (sets : List Set) (c : Constraint) → HasVarsWithin vars c.terms → HasVarsWithin vars (restriction sets c).terms
restriction-within vars sets c h = All-filter (is_unset sets) (λ t. t.lit.var ≤ vars) c.terms h
