-- At most one of some literals, as a sum.
use Rattle.std.specs.Prelude.{List}
use Rattle.pb_base.specs.declared.literal.Lit.{Lit}
use Rattle.pb_norm.specs.BoundedSums.{BoundedSum}
use Rattle.pb_derive.specs.Ones.{ones}

abbrev pub at_most_one : List Lit → BoundedSum
at_most_one ls = record { terms = ones ls; bound = 1 }
