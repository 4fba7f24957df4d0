-- The lines about a row of fresh variables as the code that hands them over has their parts.
use Rattle.std.specs.Prelude.{ℕ, zero, suc, ◌+◌, List, [], ◌∷◌}
use Rattle.pb_steps.specs.declared.step.Step.{Step}
use Rattle.pb_totalizer.specs.OutputRows.{nothing_line, front_line, tail_line, others_line}
use Rattle.pb_totalizer.specs.declared.row_lines.RowKind.{RowKind}
use Rattle.pb_totalizer.specs.declared.row_lines.RowKind.TheVariants.{Fronts, Tails, Others}
use Rattle.pb_totalizer.specs.declared.fresh_row.RowLines.{RowLines}

-- where the lines about the last variables begin
abbrev pub tails_of : RowLines → ℕ
tails_of r = r.next + suc r.row.last

abbrev pub front_piece : RowLines → ℕ → Step
front_piece r zero = nothing_line r.row.first
front_piece r (suc j) = front_line r.row.id r.row.inputs r.next j

abbrev pub tail_piece : RowLines → ℕ → Step
tail_piece r zero = nothing_line r.row.first
tail_piece r (suc k) = tail_line r.row.first r.row.last (tails_of r) k

-- how many of each kind there are
abbrev pub row_count : RowKind → ℕ → ℕ
row_count Fronts last = suc last
row_count Tails last = suc (suc last)
row_count Others last = suc last

abbrev pub row_piece : RowKind → RowLines → ℕ → ℕ → List Step
row_piece Fronts r next j = front_piece r j ∷ []
row_piece Tails r next j = tail_piece r j ∷ []
row_piece Others r next j = others_line r.row.last r.next (tails_of r) j ∷ []
