use Rattle.std.proofs.Common.{◌+◌, [], arith, refl}
use Rattle.std.specs.List.{flat_map, range_with_len}
use Rattle.pb_family.proofs.Emission.{emitting_flat, flat_next, hands_fault}
use Rattle.pb_totalizer.specs.inner.NodeClauses.{row_over}
use Rattle.pb_totalizer.specs.inner.Outputs.{output_count}
use Rattle.pb_totalizer.proofs.Rows.{flat_starts, rows_taken}
use Rattle.pb_totalizer.proofs.emission.emit_rows.Goals as goal

pub loop-i-init : goal.loop-i-init
loop-i-init g c =
    flat_starts (row_over c.args.direction c.args.node.now) (output_count c.args.node.now.left + 1) _

pub returns-in_err-emit_row : goal.returns-in_err-emit_row
returns-in_err-emit_row g c =
    let row = row_over c.args.direction c.args.node.now in
    let i = c.loop-i.i in
    hands_fault c.from_residual.result _ (row i) _ _ c.from_residual.ensures.1 (flat_next row i (output_count c.args.node.now.left + 1) [] (omega arith) c.loop-i.invariant) c.in_err-emit_row.ensures

pub loop-i-preserved : goal.loop-i-preserved
loop-i-preserved g c =
    let row = row_over c.args.direction c.args.node.now in
    emitting_flat row c.loop-i.i (output_count c.args.node.now.left + 1) [] _ _ (omega arith) refl c.loop-i.invariant c.in_ok-emit_row.ensures

pub returns : goal.returns
returns g c =
    rows_taken (λ n. flat_map (row_over c.args.direction c.args.node.now) (range_with_len c.loop-i.i n)) c.loop-i.i (output_count c.args.node.now.left + 1) refl (omega arith) c.loop-i.invariant
