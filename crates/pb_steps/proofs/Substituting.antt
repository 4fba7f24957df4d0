-- What is left of a constraint under a substitution, and what a substitution leaves alone.
use Rattle.std.proofs.Common.{◌≡◌, ◌<◌, ◌+◌, ℕ, Bool, true, false, not, cond, List, [], ◌∷◌, arith, refl, ap, sym, eqb}
use Rattle.std.specs.Prelude.{All, sum_by, filter, Some, None, Option, unwrap_or, is_none}
use Rattle.std.specs.List.{list_any}
use Rattle.std.proofs.lemmas.Bool.{or_parts, ne_eqb}
use Rattle.std.proofs.lemmas.List.Elements.{All-head, All-tail}
use Rattle.std.proofs.lemmas.List.Sums.{sum_by-cons}
use mathlib.Core.Bool.{beq}
use Rattle.pb_base.specs.Literals.{Assignment, AgreeBelow}
use Rattle.pb_base.proofs.Sums.{sum_by_two, sum_by-filter}
use Rattle.pb_norm.specs.Constraints.{Weighted, Constraint, term_value, value, Holds}
use Rattle.pb_steps.specs.declared.op.Set.{Set}
use Rattle.pb_steps.specs.Steps.{vars_of_sets}
use Rattle.pb_steps.specs.Substitutions.{set_value, overwritten, is_unset, is_made_true, restriction}

-- a literal is true under the overwriting, if the substitution makes it true, or leaves it alone and it is true
value-restricted-term : (sets : List Set) (a : Assignment) (t : Weighted) → term_value (overwritten sets a) t ≡ cond (is_unset sets t) (term_value a t) 0 + cond (is_made_true sets t.lit) t.coef 0
value-restricted-term sets a t = by_cases (set_value sets t.lit.var) (a t.lit.var) t.lit.positive t.coef where
  by_cases : (o : Option Bool) (x p : Bool) (k : ℕ) →
      cond (cond p (unwrap_or o x) (not (unwrap_or o x))) k 0 ≡ cond (is_none o) (cond (cond p x (not x)) k 0) 0 + cond (beq (unwrap_or o (not p)) p) k 0
  by_cases None x true k = omega arith
  by_cases None x false k = omega arith
  by_cases (Some true) x true k = omega arith
  by_cases (Some true) x false k = omega arith
  by_cases (Some false) x true k = omega arith
  by_cases (Some false) x false k = omega arith

-- what is left under a substitution holds exactly where the constraint holds under the overwritten assignment
pub value-restricted : (sets : List Set) (a : Assignment) (ts : List Weighted) →
    value (overwritten sets a) ts ≡ value a (filter (is_unset sets) ts) + sum_by {X = Weighted} (λ t. cond (is_made_true sets t.lit) t.coef 0) ts
value-restricted sets a ts =
    let kept = sum_by-filter (term_value a) (is_unset sets) ts in
    let sums = sum_by_two (term_value (overwritten sets a)) (λ (t : Weighted). cond (is_unset sets t) (term_value a t) 0) (λ (t : Weighted). cond (is_made_true sets t.lit) t.coef 0) ts (value-restricted-term sets a) in
    omega (arith, kept, sums)

pub holds-from_restricted : (sets : List Set) (a : Assignment) (c : Constraint) → Holds a (restriction sets c) → Holds (overwritten sets a) c
holds-from_restricted sets a c h = omega (arith, value-restricted sets a c.terms, h)

-- a constraint that names no set variable keeps its value
pub unnamed-value : (a : Assignment) (sets : List Set) (ts : List Weighted) → list_any {X = Weighted} (λ t. not (is_unset sets t)) ts ≡ false → value (overwritten sets a) ts ≡ value a ts
unnamed-value a sets [] h = refl
unnamed-value a sets (t ∷ ts) h =
    let parts = or_parts (not (is_unset sets t)) (list_any {X = Weighted} (λ u. not (is_unset sets u)) ts) h in
    let here : unwrap_or (set_value sets t.lit.var) (a t.lit.var) ≡ a t.lit.var = unset (set_value sets t.lit.var) (a t.lit.var) parts.0 in
    let term : term_value (overwritten sets a) t ≡ term_value a t = ap (λ (b : Bool). cond (cond t.lit.positive b (not b)) t.coef 0) here in
    omega (arith, sum_by-cons (term_value a) t ts, sum_by-cons (term_value (overwritten sets a)) t ts, unnamed-value a sets ts parts.1)
  where
    unset : (o : Option Bool) (b : Bool) → not (is_none o) ≡ false → unwrap_or o b ≡ b
    unset None b e = refl
    unset (Some x) b e = cc

pub agree-overwritten : (n : ℕ) (sets : List Set) (a : Assignment) → All (λ v. n < v) (vars_of_sets sets) → AgreeBelow (n + 1) a (overwritten sets a)
agree-overwritten n sets a fresh v h = ap (λ (o : Option Bool). unwrap_or o (a v)) (sym (none sets fresh)) where
  none : (ss : List Set) → All (λ v. n < v) (vars_of_sets ss) → set_value ss v ≡ None
  none [] f = refl
  none (s ∷ ss) f =
      let first : n < s.var = All-head (λ (w : ℕ). n < w) s.var (vars_of_sets ss) f in
      let other : eqb s.var v ≡ false = ne_eqb s.var v (λ e. omega arith) in
      rw other (none ss (All-tail (λ (w : ℕ). n < w) s.var (vars_of_sets ss) f))
