-- Where some rows end.
use Rattle.std.specs.Prelude.{ℕ, ◌≡◌}
use Rattle.pb_counter.specs.CounterRows.{order_at, climb_at, row_end}
use Rattle.pb_counter.specs.CounterHalves.{RowsEnd}

-- the ids of the last row's order and of the sum of all rows, and the next one
abbrev pub Ends : RowsEnd → ℕ → ℕ → ℕ → Type 0
Ends end order climb next = (order ≡ end.order) × (climb ≡ end.climb) × (next ≡ end.next)

-- of one row
abbrev pub row_ends : ℕ → ℕ → RowsEnd
row_ends last next = record { order = order_at last next; climb = climb_at last next; next = row_end last next }
