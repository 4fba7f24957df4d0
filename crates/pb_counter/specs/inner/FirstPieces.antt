-- The steps of the first row as the code that hands them over has their parts.
use Rattle.std.specs.Prelude.{ℕ, suc, ◌+◌, ◌*◌, List, [], ◌∷◌}
use Rattle.std.specs.List.{range_with_len}
use Rattle.pb_steps.specs.declared.step.Step.{Step}
use Rattle.pb_steps.specs.declared.step.Step.TheVariants.{Out, Del}
use Rattle.pb_derive.specs.Reifications.{reification_steps}
use Rattle.pb_counter.specs.CounterHalves.{first_count, first_line, first_order_line, total_line}
use Rattle.pb_counter.specs.inner.PlacePieces.{front_piece}
use Rattle.pb_counter.specs.declared.first_row.FirstRow.{FirstRow}
use Rattle.pb_counter.specs.declared.first_parts.FirstKind.{FirstKind}
use Rattle.pb_counter.specs.declared.first_parts.FirstKind.TheVariants.{Counts, Starts, Orders, Fronts, Total, Clauses, Deleted}

-- how many steps of each kind there are, and how many ids each takes
abbrev pub first_kinds : FirstKind → ℕ → ℕ
first_kinds Counts last = suc last
first_kinds Starts last = suc last
first_kinds Orders last = last
first_kinds Fronts last = suc last
first_kinds Total last = 1
first_kinds Clauses last = suc last
first_kinds Deleted last = 1

abbrev pub first_width : FirstKind → ℕ
first_width Counts = 2
first_width Starts = 1
first_width Orders = 1
first_width Fronts = 1
first_width Total = 1
first_width Clauses = 0
first_width Deleted = 0

abbrev pub first_piece : FirstKind → FirstRow → ℕ → ℕ → List Step
first_piece Counts r next j = reification_steps next (first_count r.lit r.first j ∷ [])
first_piece Starts r next j = first_line r.counts j ∷ []
first_piece Orders r next j = first_order_line r.first r.counts j ∷ []
first_piece Fronts r next j = front_piece r.first r.order r.fronts j ∷ []
first_piece Total r next j = total_line r.last r.id r.counts ∷ []
first_piece Clauses r next j = Out (r.starts + j) ∷ []
first_piece Deleted r next j = Del (range_with_len r.counts (2 * suc r.last)) ∷ []
