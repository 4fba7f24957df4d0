-- The half of an exact sum that says how many are true at least, over the negated terms.
use Rattle.std.proofs.Common.{◌≡◌, ◌≢◌, ◌≤◌, ◌+◌, ◌==◌, ℕ, Bool, true, false, cond, List, [], ◌∷◌, map, refl, sym, subst, arith}
use Rattle.std.specs.Prelude.{sum_by}
use Rattle.std.specs.List.{AllPairs}
use Rattle.std.proofs.lemmas.Bool.{and_parts, eqb-true}
use Rattle.std.proofs.lemmas.List.Sums.{sum_by-cons}
use Rattle.pb_base.specs.declared.literal.Lit.{Lit}
use Rattle.pb_base.specs.Literals.{Assignment, negated, is_among}
use Rattle.pb_norm.specs.Constraints.{Weighted, weight, value}
use Rattle.pb_norm.specs.BoundedSums.{BoundedSum, StaysWithin, IsOverDistinct}
use Rattle.pb_norm.specs.Reduction.{all_weigh, opposite}
use Rattle.pb_norm.proofs.AdditionSizes.{weight-cons}
use Rattle.pb_norm.proofs.BoundedForcing.{given_sum, given_sum-cons}
use Rattle.pb_derive.proofs.Opposites.{value-opposite, vars-opposite}
use Rattle.pb_tree.specs.Tree.{tree_of}
use Rattle.pb_tree.proofs.Splitting.{split_sum}
use Rattle.pb_totalizer.specs.Exact.{at_least}
use Rattle.pb_totalizer.specs.ExactOutputs.{open_leaves}

pub least_distinct : (m : BoundedSum) → IsOverDistinct m.terms → IsOverDistinct (at_least m).terms
least_distinct m distinct = subst (λ (vs : List ℕ). AllPairs (λ v w. v ≢ w) vs) (sym (vars-opposite m.terms)) distinct

pub least_from : (m : BoundedSum) → m.bound ≤ weight m.terms → (a : Assignment) → StaysWithin a (at_least m) → m.bound ≤ value a m.terms
least_from m le a h = omega (arith, value-opposite a m.terms)

pub least_to : (m : BoundedSum) → (a : Assignment) → m.bound ≤ value a m.terms → StaysWithin a (at_least m)
least_to m a h = omega (arith, value-opposite a m.terms)

-- ---- false leaves

-- the literals whose negation is given
abbrev pub denied : List Lit → Lit → Bool
denied given l = is_among given (negated l)

one_denied : (b : Bool) (n : ℕ) → n ≡ 1 → cond b n 0 + cond b 0 1 ≡ 1
one_denied true n e = omega arith
one_denied false n e = omega arith

open_sum : (given : List Lit) (ts : List Weighted) → all_weigh 1 ts ≡ true → given_sum given (map opposite ts) + sum_by (λ (u : Weighted). cond (denied given u.lit) 0 1) ts ≡ weight ts
open_sum given [] units = refl
open_sum given (t ∷ ts) units =
    let parts = and_parts (t.coef == 1) (all_weigh 1 ts) units in
    let one = eqb-true t.coef 1 parts.0 in
    omega (arith, given_sum-cons given (opposite t) (map opposite ts), sum_by-cons (λ (u : Weighted). cond (denied given u.lit) 0 1) t ts, weight-cons t ts, one_denied (denied given t.lit) t.coef one, open_sum given ts parts.1)

-- the leaves that are not false are what the other half's sum leaves
pub open_leaves_sum : (given : List Lit) (ts : List Weighted) → all_weigh 1 ts ≡ true → given_sum given (map opposite ts) + open_leaves given (tree_of ts) ≡ weight ts
open_leaves_sum given ts units = omega (arith, open_sum given ts units, split_sum (λ (u : Weighted). cond (denied given u.lit) 0 1) ts)
