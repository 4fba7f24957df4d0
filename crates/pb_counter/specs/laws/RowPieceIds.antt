-- How many ids the steps of a row take.
use Rattle.std.proofs.Common.{◌≡◌, ℕ, zero, suc, refl, suc}
use Rattle.std.specs.Prelude.{◌+◌, count_by}
use Rattle.pb_steps.specs.Steps.{takes_id}
use Rattle.pb_family.proofs.Sequence.{reification_ids}
use Rattle.pb_counter.specs.CounterRows.{next_count}
use Rattle.pb_counter.specs.inner.RowPieces.{row_piece, row_width}
use Rattle.pb_counter.specs.CounterHalves.{first_count}
use Rattle.pb_counter.specs.inner.FirstPieces.{first_piece, first_width}
use Rattle.pb_counter.specs.declared.first_row.FirstRow.{FirstRow}
use Rattle.pb_counter.specs.declared.first_parts.FirstKind.{FirstKind}
use Rattle.pb_counter.specs.declared.first_parts.FirstKind.TheVariants as one
use Rattle.pb_counter.specs.declared.row.Row.{Row}
use Rattle.pb_counter.specs.declared.row_parts.RowKind.{RowKind}
use Rattle.pb_counter.specs.declared.row_parts.RowKind.TheVariants.{Counts, Falls, Parts, Mores, Keeps, Stop, Orders, Fronts, Clauses, StopClause, Deleted}

pub row_piece_ids : (kind : RowKind) (r : Row) (next j : ℕ) → count_by takes_id (row_piece kind r next j) ≡ row_width kind
row_piece_ids Counts r next j = reification_ids next (next_count r.lit r.first (r.first + suc r.last) j)
row_piece_ids Falls r next j = refl
row_piece_ids Parts r next zero = refl
row_piece_ids Parts r next (suc j) = refl
row_piece_ids Mores r next j = refl
row_piece_ids Keeps r next zero = refl
row_piece_ids Keeps r next (suc j) = refl
row_piece_ids Stop r next j = refl
row_piece_ids Orders r next j = refl
row_piece_ids Fronts r next zero = refl
row_piece_ids Fronts r next (suc j) = refl
row_piece_ids Clauses r next j = refl
row_piece_ids StopClause r next j = refl
row_piece_ids Deleted r next j = refl

pub first_piece_ids : (kind : FirstKind) (r : FirstRow) (next j : ℕ) → count_by takes_id (first_piece kind r next j) ≡ first_width kind
first_piece_ids one.Counts r next j = reification_ids next (first_count r.lit r.first j)
first_piece_ids one.Starts r next zero = refl
first_piece_ids one.Starts r next (suc j) = refl
first_piece_ids one.Orders r next j = refl
first_piece_ids one.Fronts r next zero = refl
first_piece_ids one.Fronts r next (suc j) = refl
first_piece_ids one.Total r next j = refl
first_piece_ids one.Clauses r next j = refl
first_piece_ids one.Deleted r next j = refl
