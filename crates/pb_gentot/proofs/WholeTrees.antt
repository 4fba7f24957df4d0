-- The terms of a generalized totalizer, as its code has them.
use Rattle.std.proofs.Common.{◌≡◌, ◌≤◌, ◌<◌, ◌+◌, ◌^◌, ℕ, List, length, ap, sym, subst, arith}
use Rattle.std.proofs.lemmas.List.{length-map}
use Rattle.pb_base.specs.declared.literal.Term.{Term}
use Rattle.pb_norm.specs.BoundedSums.{IsProper, sum_within}
use Rattle.pb_norm.specs.Constraints.{AllPositive, weight, weighted, weights}
use Rattle.pb_tree.specs.Walks.{Suits, fresh_over}
use Rattle.pb_gentot.specs.Generalized.{generalized, generalized_fresh}
use Rattle.pb_gentot.specs.inner.Wholes.{IsWhole}
use Rattle.pb_gentot.proofs.Bounds.{some_terms}

-- where the code has the terms `us` of a bounded sum as `ts`
pub whole_of : (us ts : List Term) (bound first : ℕ) → IsProper (sum_within us bound) → bound < 2 ^ 100 → weight (weights us) < 2 ^ 100 → ts ≡ us → 1 ≤ first
    → first + generalized_fresh (sum_within us bound) ≤ 2 ^ 31 → IsWhole ts bound first
whole_of us ts bound first proper small light same low fits = record {
  some = omega (arith, length-map us weighted, some_terms bound (weights us) proper.heavy, ap length same);
  small = small;
  positive = subst (λ (vs : List Term). AllPositive (weights vs)) (sym same) proper.positive;
  light = omega (arith, light, ap (λ (vs : List Term). weight (weights vs)) same);
  low = low;
  fits = omega (arith, fits, ap (λ (vs : List Term). fresh_over (generalized bound) vs) same);
}

-- what a walk along its tree asks
pub whole_suits : {ts : List Term} {bound first : ℕ} → IsWhole ts bound first → Suits (generalized bound) (fresh_over (generalized bound) ts) ts 0
whole_suits whole = record { positive = whole.positive; light = whole.light; fits = omega arith }
