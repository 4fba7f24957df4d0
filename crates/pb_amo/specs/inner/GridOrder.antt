-- What a grid's lines mean, by their numbers.
use Rattle.std.specs.Prelude.{ℕ, ◌+◌, ◌-◌, List, nat_lt, if◌then◌else◌}
use Rattle.pb_base.specs.declared.literal.Lit.{Lit}
use Rattle.pb_derive.specs.Reifications.{Reification}
use Rattle.pb_amo.specs.ProductSteps.{line_reification, row_of, column_of}

-- first the rows, and then the columns
abbrev pub line_at : List Lit → ℕ → ℕ → ℕ → ℕ → Reification
line_at ms first r q k = if nat_lt k r then line_reification (row_of q) ms first k else line_reification (column_of q) ms (first + r) (k - r)
