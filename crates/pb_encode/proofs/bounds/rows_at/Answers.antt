use Rattle.std.proofs.Common.{rules, FitsSigned, to_z, of_z, ◌≡◌, ◌<◌, ◌∙◌, length, ap, sym, arith}
use mir.Syntax.{w128}
use Rattle.std.proofs.lemmas.Int.{to_z-of_z}
use Rattle.std.proofs.lemmas.List.{take_all}
use Rattle.pb_gentot.specs.BoundTable.{table_rows}
use Rattle.pb_encode.proofs.BoundTexts.{risen, row_small, row_there, rows_count, rows_more}
use Rattle.pb_encode.proofs.bounds.rows_at.Goals as goal

pub unreachable-requires : goal.unreachable-requires
unreachable-requires c =
    let rows = table_rows c.args.table.now c.args.first in
    let below : c.loop-place.place < length rows = omega (arith, rows_count c.args.table.now c.args.first, c.loop-place-test.true, c.len-place-end.ensures) in
    row_there rows c.loop-place.place below (sym c.row.ensures ∙ c.in_default.is)

pub value_at-requires-clause-above : goal.value_at-requires-clause-above
value_at-requires-clause-above c = row_small c.args.table.now c.args.first c.loop-place.place c.in-Some.row c.requires.light (sym c.row.ensures ∙ c.in-Some.is)

pub loop-place-preserved : goal.loop-place-preserved
loop-place-preserved c =
    let fits : FitsSigned w128 c.value_at.result = search rules in
    let kept : to_z w128 (of_z w128 c.value_at.result) ≡ c.value_at.result = to_z-of_z w128 c.value_at.result fits in
    rows_more c.args.offset.now (table_rows c.args.table.now c.args.first) c.loop-place.place c.in-Some.row _ _ _ (sym c.row.ensures ∙ c.in-Some.is) c.loop-place.invariant c.in_ok-push.ensures.items (kept ∙ c.value_at.ensures)

pub returns : goal.returns
returns c =
    let rows = table_rows c.args.table.now c.args.first in
    let whole = take_all c.loop-place.place rows (omega (arith, rows_count c.args.table.now c.args.first, c.loop-place-test.false, c.len-place-end.ensures)) in
    c.loop-place.invariant ∙ ap (risen c.args.offset.now) whole
