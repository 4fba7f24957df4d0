-- All kinds of steps of the first row, in their order.
use Rattle.std.specs.Prelude.{List, [], ◌∷◌}
use Rattle.pb_counter.specs.declared.first_row.FirstRow.{FirstRow}
use Rattle.pb_counter.specs.declared.first_parts.FirstPart.{FirstPart}
use Rattle.pb_counter.specs.declared.first_parts.FirstKind.TheVariants.{Counts, Starts, Orders, Fronts, Total, Clauses, Deleted}

abbrev pub first_parts : FirstRow → List FirstPart
first_parts r =
    record { row = r; kind = Counts }
    ∷ record { row = r; kind = Starts }
    ∷ record { row = r; kind = Orders }
    ∷ record { row = r; kind = Fronts }
    ∷ record { row = r; kind = Total }
    ∷ record { row = r; kind = Clauses }
    ∷ record { row = r; kind = Deleted }
    ∷ []
