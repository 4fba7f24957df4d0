-- The clause of a level of a comparator, as the code has it.
use Rattle.std.specs.Prelude.{List, [], ◌∷◌, Option, Some, None, take}
use Rattle.pb_base.specs.declared.literal.Lit.{Lit}
use Rattle.pb_adder.specs.declared.row.Row.{Row}

abbrev pub row_lits : Row → List Lit
row_lits row = take row.len row.lits

abbrev pub rows_in : Option Row → List (List Lit)
rows_in None = []
rows_in (Some row) = row_lits row ∷ []
