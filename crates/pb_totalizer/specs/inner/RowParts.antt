-- All kinds of lines about a row of fresh variables, in their order.
use Rattle.std.specs.Prelude.{List, [], ◌∷◌}
use Rattle.pb_totalizer.specs.declared.row_lines.RowKind.TheVariants.{Fronts, Tails, Others}
use Rattle.pb_totalizer.specs.declared.fresh_row.RowLines.{RowLines}
use Rattle.pb_totalizer.specs.declared.row_lines.RowPart.{RowPart}

abbrev pub row_parts : RowLines → List RowPart
row_parts r = record { lines = r; kind = Fronts } ∷ record { lines = r; kind = Tails } ∷ record { lines = r; kind = Others } ∷ []
