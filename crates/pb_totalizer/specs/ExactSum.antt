-- The sum that a totalizer in both directions is of, as others see it. Our own.
use Rattle.pb_norm.specs.BoundedSums.{BoundedSum, sum_within}
use Rattle.pb_totalizer.specs.declared.exact.Exact.{Exact}

-- the literals, and how many of them are to be true
abbrev pub exact_sum : Exact → BoundedSum
exact_sum f = sum_within f.terms.items f.bound
