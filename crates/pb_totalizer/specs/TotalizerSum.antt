-- The sum that a totalizer in one direction is of, as others see it. Our own.
use Rattle.pb_norm.specs.BoundedSums.{BoundedSum, sum_within}
use Rattle.pb_totalizer.specs.declared.totalizer.Totalizer.{Totalizer}

-- the literals, and how many of them may be true
abbrev pub totalizer_sum : Totalizer → BoundedSum
totalizer_sum f = sum_within f.terms.items f.bound
