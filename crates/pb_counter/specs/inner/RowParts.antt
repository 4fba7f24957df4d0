-- All kinds of steps of a row, in their order.
use Rattle.std.specs.Prelude.{List, [], ◌∷◌}
use Rattle.pb_counter.specs.declared.row.Row.{Row}
use Rattle.pb_counter.specs.declared.row_parts.RowPart.{RowPart}
use Rattle.pb_counter.specs.declared.row_parts.RowKind.TheVariants.{Counts, Falls, Parts, Mores, Keeps, Stop, Orders, Fronts, Clauses, StopClause, Deleted}

abbrev pub row_parts : Row → List RowPart
row_parts r =
    record { row = r; kind = Counts }
    ∷ record { row = r; kind = Falls }
    ∷ record { row = r; kind = Parts }
    ∷ record { row = r; kind = Mores }
    ∷ record { row = r; kind = Keeps }
    ∷ record { row = r; kind = Stop }
    ∷ record { row = r; kind = Orders }
    ∷ record { row = r; kind = Fronts }
    ∷ record { row = r; kind = Clauses }
    ∷ record { row = r; kind = StopClause }
    ∷ record { row = r; kind = Deleted }
    ∷ []
