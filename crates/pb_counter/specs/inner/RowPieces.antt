-- The steps of a row as the code that hands them over has their parts.
use Rattle.std.specs.Prelude.{ℕ, suc, ◌+◌, List, [], ◌∷◌}
use Rattle.pb_steps.specs.declared.step.Step.{Step}
use Rattle.pb_steps.specs.declared.step.Step.TheVariants.{Out, Del}
use Rattle.pb_derive.specs.Reifications.{reification_steps}
use Rattle.pb_counter.specs.CounterRows.{next_count, fall_line, more_line, keep_line, stop_line, order_line, row_deleted, falls_at, parts_at, mores_at, keeps_at, stop_at, order_at, fronts_at}
use Rattle.pb_counter.specs.inner.PlacePieces.{part_piece, front_piece}
use Rattle.pb_counter.specs.declared.row.RowIds.{RowIds}
use Rattle.pb_counter.specs.declared.row.Row.{Row}
use Rattle.pb_counter.specs.declared.row_parts.RowKind.{RowKind}
use Rattle.pb_counter.specs.declared.row_parts.RowKind.TheVariants.{Counts, Falls, Parts, Mores, Keeps, Stop, Orders, Fronts, Clauses, StopClause, Deleted}

-- how many steps of each kind there are, and how many ids each takes
abbrev pub row_count : RowKind → ℕ → ℕ
row_count Counts last = suc last
row_count Falls last = last
row_count Parts last = suc last
row_count Mores last = suc last
row_count Keeps last = suc last
row_count Stop last = 1
row_count Orders last = last
row_count Fronts last = suc last
row_count Clauses last = suc last
row_count StopClause last = 1
row_count Deleted last = 1

abbrev pub row_width : RowKind → ℕ
row_width Counts = 2
row_width Falls = 1
row_width Parts = 1
row_width Mores = 1
row_width Keeps = 1
row_width Stop = 1
row_width Orders = 1
row_width Fronts = 1
row_width Clauses = 0
row_width StopClause = 0
row_width Deleted = 0

abbrev pub row_piece : RowKind → Row → ℕ → ℕ → List Step
row_piece Counts r next j = reification_steps next (next_count r.lit r.first (r.first + suc r.last) j ∷ [])
row_piece Falls r next j = fall_line r.lit.var r.order r.ids.counts j ∷ []
row_piece Parts r next j = part_piece r.first r.fronts r.ids.counts r.ids.falls r.ids.parts j ∷ []
row_piece Mores r next j = more_line r.first r.ids.counts j ∷ []
row_piece Keeps r next j = keep_line r.lit.var r.first r.ids.counts j ∷ []
row_piece Stop r next j = stop_line r.last r.fronts r.whole ∷ []
row_piece Orders r next j = order_line r.ids.falls r.ids.keeps j ∷ []
row_piece Fronts r next j = front_piece (r.first + suc r.last) r.ids.order r.ids.fronts j ∷ []
row_piece Clauses r next j = Out (r.ids.mores + j) ∷ Out (r.ids.keeps + j) ∷ []
row_piece StopClause r next j = Out r.ids.stop ∷ []
row_piece Deleted r next j = Del (row_deleted r.last r.order r.ids.counts) ∷ []

abbrev pub row_ids : ℕ → ℕ → RowIds
row_ids last next = record {
  counts = next;
  falls = falls_at last next;
  parts = parts_at last next;
  mores = mores_at last next;
  keeps = keeps_at last next;
  stop = stop_at last next;
  order = order_at last next;
  fronts = fronts_at last next;
}
