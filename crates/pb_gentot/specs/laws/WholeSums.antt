-- The terms of a generalized totalizer have a tree, and its values are within their range.
use Rattle.std.proofs.Common.{◌<◌, ◌^◌, ℕ, List, arith}
use Rattle.pb_base.specs.declared.literal.Term.{Term}
use Rattle.pb_tree.specs.Scheme.{values}
use Rattle.pb_tree.specs.Walks.{IsTreeSum}
use Rattle.pb_tree.proofs.Extending.{all_from_each}
use Rattle.pb_gentot.specs.Generalized.{generalized}
use Rattle.pb_gentot.specs.inner.Wholes.{IsWhole}
use Rattle.pb_gentot.specs.laws.GeneralizedLaws.{values_within}

pub whole_sum : {ts : List Term} {bound first : ℕ} → IsWhole ts bound first → IsTreeSum (generalized bound) ts first
whole_sum {bound = bound} whole = record {
  some = whole.some;
  positive = whole.positive;
  light = whole.light;
  low = whole.low;
  fits = whole.fits;
  small = λ t. all_from_each (λ u. u < 2 ^ 101) (values (generalized bound) t) (λ u h. omega (arith, values_within bound t u h, whole.small));
}
