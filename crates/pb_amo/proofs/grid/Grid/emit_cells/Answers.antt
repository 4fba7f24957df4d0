use Rattle.std.proofs.Common.{[], length, refl, arith}
use Rattle.pb_family.proofs.Emission.{emitting_from, emitting_flat, flat_next, hands_fault}
use Rattle.pb_amo.specs.Product.{cell, cells}
use Rattle.pb_amo.specs.inner.Source.{source_literals}
use Rattle.pb_amo.proofs.Steps.{flat_starts}
use Rattle.pb_amo.proofs.grid.Grid.emit_cells.Goals as goal

pub loop-place-init : goal.loop-place-init
loop-place-init g c =
    let grid = c.args.self.now in
    let ms = source_literals grid.literals in
    emitting_from _ (flat_starts (cell ms grid.first grid.sides.rows grid.sides.columns) (length ms))

pub returns-in_err-emit_cell : goal.returns-in_err-emit_cell
returns-in_err-emit_cell g c =
    let grid = c.args.self.now in
    let ms = source_literals grid.literals in
    let each = cell ms grid.first grid.sides.rows grid.sides.columns in
    hands_fault {all = cells ms grid.first grid.sides.rows grid.sides.columns} c.from_residual.result _ (each c.loop-place.place) _ (g.S.ClauseSink.state c.emit_cell.new.sink) c.from_residual.ensures.1 (flat_next each c.loop-place.place (length ms) [] (omega arith) c.loop-place.invariant) c.in_err-emit_cell.ensures

pub loop-place-preserved : goal.loop-place-preserved
loop-place-preserved g c =
    let grid = c.args.self.now in
    let ms = source_literals grid.literals in
    let each = cell ms grid.first grid.sides.rows grid.sides.columns in
    emitting_flat {all = cells ms grid.first grid.sides.rows grid.sides.columns} each c.loop-place.place (length ms) [] _ (g.S.ClauseSink.state c.emit_cell.new.sink) (omega arith) refl c.loop-place.invariant c.in_ok-emit_cell.ensures
