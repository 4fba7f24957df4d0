-- Sums of literals with the coefficient 1.
use Rattle.std.specs.Prelude.{List, map}
use Rattle.pb_base.specs.declared.literal.Lit.{Lit}
use Rattle.pb_norm.specs.Constraints.{Weighted}

abbrev pub unit_of : Lit → Weighted
unit_of l = record { coef = 1; lit = l }

abbrev pub ones : List Lit → List Weighted
ones ls = map unit_of ls
