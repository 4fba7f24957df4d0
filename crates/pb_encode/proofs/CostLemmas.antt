-- The value of an objective, by its costs.
use Rattle.std.proofs.Common.{◌≡◌, ◌<◌, ◌+◌, ◌^◌, ℕ, Bool, not, cond, List, [], ◌∷◌, map, Option, Some, None, refl, sym, ap, ◌∙◌, arith, ℤ, pos, ◌+ℤ◌, ◌-ℤ◌, ◌≤ℤ◌}
use Rattle.std.specs.Prelude.{negsuc}
use Rattle.std.specs.Option.{MatchOption, unwrap_or}
use Rattle.std.proofs.lemmas.Int.{ints}
use Rattle.std.proofs.lemmas.List.Sums.{sum_by-cons}
use Rattle.pb_base.specs.declared.literal.Term.{Term}
use Rattle.pb_base.specs.Literals.{Assignment, lit_value}
use Rattle.pb_base.specs.Problems.{IsSumWithin, magnitude, objective_terms, originals, sum_value}
use Rattle.pb_norm.specs.Constraints.{Weighted, term_value, value}
use Rattle.pb_norm.specs.Addition.{cancelled}
use Rattle.pb_norm.specs.Halves.{moved, normal_degree, normal_terms, positive_part, unsigned}
use Rattle.pb_norm.specs.Reduction.{opposite}
use Rattle.pb_norm.proofs.NetBounds.{sum_value_bounds}
use Rattle.pb_norm.proofs.WrittenForm.{normal_terms-value}
use Rattle.pb_encode.specs.Costs.{CostsAddUp, cost_under, offset_of}

pub light_terms : (vars : ℕ) (o : Option (List Term)) → MatchOption o (Unit {0}) (λ ts. IsSumWithin vars ts × (magnitude ts < 2 ^ 100)) → magnitude (unwrap_or o []) < 2 ^ 100
light_terms vars None h = omega arith
light_terms vars (Some ts) h = h.1

-- a term costs where its negated literal is false
cost_of_term : (value positive : Bool) (n : ℕ) → cond (cond (not positive) value (not value)) 0 n ≡ cond (cond positive value (not value)) n 0
cost_of_term value positive n = grind arith

cost_is_value : (a : Assignment) (ts : List Weighted) → cost_under a (map opposite ts) ≡ value a ts
cost_is_value a [] = refl
cost_is_value a (t ∷ ts) =
    let here = cost_of_term (a t.lit.var) t.lit.positive t.coef in
    let rest = cost_is_value a ts in
    omega (arith, here, rest, sum_by-cons (λ (s : Weighted). cond (lit_value a s.lit) 0 s.coef) (opposite t) (map opposite ts), sum_by-cons (term_value a) t ts)

-- a number that is not below 0 is its positive part
positive_is : (z : ℤ) → pos 0 ≤ℤ z → pos (positive_part z) ≡ z
positive_is (pos n) h = refl
positive_is (negsuc n) h = absurd (omega (arith, ints, h))

-- by what moved and what cancelled
adds_up : (s right : ℤ) (m k v d : ℕ) → s +ℤ pos m ≡ pos (v + k) → pos d ≡ right +ℤ pos m -ℤ pos k → s ≡ (right -ℤ pos d) +ℤ pos v
adds_up s right m k v d both degree = omega (arith, ints, both, degree)

enough : (s : ℤ) (m k v : ℕ) → s +ℤ pos m ≡ pos (v + k) → s ≤ℤ pos (2 ^ 100) → pos 0 ≤ℤ (pos (2 ^ 100) +ℤ pos m -ℤ pos k)
enough s m k v both small = omega (arith, ints, both, small)

pub costs_of_sum : (a : Assignment) (ts : List Term) → magnitude ts < 2 ^ 100 → sum_value a ts ≡ (pos (2 ^ 100) -ℤ pos (normal_degree ts (pos (2 ^ 100)))) +ℤ pos (value a (normal_terms ts))
costs_of_sum a ts light =
    let m = moved ts in
    let k = cancelled (map unsigned ts) [] in
    let both = normal_terms-value a ts in
    let small : sum_value a ts ≤ℤ pos (2 ^ 100) = omega (arith, ints, (sum_value_bounds a ts).0, light) in
    let degree = positive_is (pos (2 ^ 100) +ℤ pos m -ℤ pos k) (enough (sum_value a ts) m k (value a (normal_terms ts)) both small) in
    adds_up (sum_value a ts) (pos (2 ^ 100)) m k (value a (normal_terms ts)) (normal_degree ts (pos (2 ^ 100))) both degree

pub costs_add_up : CostsAddUp
costs_add_up p a within =
    let ts = objective_terms p in
    costs_of_sum a ts (light_terms (originals p) p.objective within.objective)
    ∙ ap (λ (n : ℕ). offset_of p +ℤ pos n) (sym (cost_is_value a (normal_terms ts)))
