use Rattle.std.proofs.Common.{◌+◌, ◌*◌, [], ◌∷◌, sym}
use Rattle.pb_derive.specs.Claims.{Claim, claim_steps}
use Rattle.pb_family.proofs.Deriving.{deriving_as, deriving_starts, deriving_step, steps_fault, steps_last}
use Rattle.pb_amo.specs.ProductSteps.{line_claim, row_of, column_of}
use Rattle.pb_amo.specs.inner.Source.{source_literals}
use Rattle.pb_amo.proofs.cells.CellsPieces.derive_one.Goals as goal

pub returns-in_err-derive_cell : goal.returns-in_err-derive_cell
returns-in_err-derive_cell g c =
    let grid = c.args.self.now.grid in
    let ms = source_literals grid.literals in
    let base = c.args.self.now.base in
    let old = g.T.StepSink.state c.args.sink.now in
    let one : Claim = line_claim (row_of grid.sides.columns) ms grid.first base c.args.number in
    let other : Claim = line_claim (column_of grid.sides.columns) ms (grid.first + grid.sides.rows) (base + 2 * grid.sides.rows) c.args.number in
    steps_fault c.from_residual.result _ (claim_steps old.next (one ∷ [])) (claim_steps (old.next + 1) (other ∷ [])) (g.T.StepSink.state c.derive_cell.new.sink) c.from_residual.ensures.1
    (deriving_starts (claim_steps old.next (one ∷ other ∷ [])) old) c.in_err-derive_cell.ensures

pub returns : goal.returns
returns g c =
    let grid = c.args.self.now.grid in
    let ms = source_literals grid.literals in
    let base = c.args.self.now.base in
    let old = g.T.StepSink.state c.args.sink.now in
    let mid = g.T.StepSink.state c.derive_cell.new.sink in
    let one : Claim = line_claim (row_of grid.sides.columns) ms grid.first base c.args.number in
    let other : Claim = line_claim (column_of grid.sides.columns) ms (grid.first + grid.sides.rows) (base + 2 * grid.sides.rows) c.args.number in
    steps_last c.derive_cell-2.result (claim_steps mid.next (other ∷ [])) (g.T.StepSink.state c.derive_cell-2.new.sink)
    (deriving_as (λ x. claim_steps (sym c.in_ok-derive_cell.ensures.ids x) (other ∷ []))
    (deriving_step {left = claim_steps (old.next + 1) (other ∷ [])} (claim_steps old.next (one ∷ [])) mid (deriving_starts (claim_steps old.next (one ∷ other ∷ [])) old) c.in_ok-derive_cell.ensures)) c.derive_cell-2.ensures
