-- The terms of a totalizer have a tree, and its values are within their range.
use Rattle.std.proofs.Common.{◌<◌, ◌^◌, ℕ, List, arith}
use Rattle.pb_base.specs.declared.literal.Term.{Term}
use Rattle.pb_tree.specs.Scheme.{values}
use Rattle.pb_tree.specs.Walks.{IsTreeSum}
use Rattle.pb_tree.proofs.Extending.{all_from_each}
use Rattle.pb_totalizer.specs.Totalizer.{totalizer}
use Rattle.pb_totalizer.specs.inner.Wholes.{IsWhole}
use Rattle.pb_totalizer.specs.laws.TotalizerLaws.{value_bounds, values_length}

pub whole_sum : {ts : List Term} {bound first : ℕ} → IsWhole ts bound first → IsTreeSum (totalizer bound) ts first
whole_sum {bound = bound} whole = record {
  some = omega (arith, whole.more);
  positive = whole.positive;
  light = whole.light;
  low = whole.low;
  fits = whole.fits;
  small = λ t. all_from_each (λ u. u < 2 ^ 101) (values (totalizer bound) t) (λ u h. let b = value_bounds bound t u h in omega (arith, b.1, values_length bound t, whole.more, whole.few));
}
