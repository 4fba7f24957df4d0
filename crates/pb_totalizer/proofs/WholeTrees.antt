-- The terms of a sum whose coefficients are 1, as its code has them.
use Rattle.std.proofs.Common.{◌≡◌, ◌≤◌, ◌<◌, ◌+◌, ◌^◌, ℕ, List, length, ap, sym, subst, arith}
use Rattle.std.specs.Prelude.{IsTrue}
use Rattle.std.proofs.lemmas.List.{length-map}
use Rattle.pb_base.specs.declared.literal.Term.{Term}
use Rattle.pb_norm.specs.BoundedSums.{IsProper, sum_within}
use Rattle.pb_norm.specs.Constraints.{AllPositive, weight, weighted, weights}
use Rattle.pb_norm.specs.Reduction.{all_weigh}
use Rattle.pb_family.proofs.UnitSums.{more_than_bound, unit_weight}
use Rattle.pb_tree.specs.Walks.{Suits, fresh_over}
use Rattle.pb_totalizer.specs.Totalizer.{totalizer, totalizer_fresh}
use Rattle.pb_totalizer.specs.inner.Wholes.{IsWhole}

-- where the code has the terms `us` as `ts`
pub whole_of : (us ts : List Term) (bound first : ℕ) → IsTrue (all_weigh 1 (weights us)) → IsProper (sum_within us bound) → length us < 2 ^ 31 → ts ≡ us → 1 ≤ first
    → first + totalizer_fresh (sum_within us bound) ≤ 2 ^ 31 → IsWhole ts bound first
whole_of us ts bound first units proper few same low fits =
    let long = length-map us weighted in
    let here = ap length same in
    let more = more_than_bound (sum_within us bound) units proper in
    record {
      from = proper.bound_from;
      more = omega (arith, long, here, more);
      few = omega (arith, here, few);
      positive = subst (λ (vs : List Term). AllPositive (weights vs)) (sym same) proper.positive;
      light = omega (arith, unit_weight (weights us) units, long, few, ap (λ (vs : List Term). weight (weights vs)) same);
      low = low;
      fits = omega (arith, fits, ap (λ (vs : List Term). fresh_over (totalizer bound) vs) same);
    }

-- what a walk along its tree asks
pub whole_suits : {ts : List Term} {bound first : ℕ} → IsWhole ts bound first → Suits (totalizer bound) (fresh_over (totalizer bound) ts) ts 0
whole_suits whole = record { positive = whole.positive; light = whole.light; fits = omega arith }
