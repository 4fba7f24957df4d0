use Rattle.std.proofs.Common.{◌-◌, ap, arith}
use Rattle.pb_base.specs.declared.literal.Lit.{Lit}
use Rattle.pb_family.proofs.Deriving.{steps_same}
use Rattle.pb_amo.specs.Passing.{in_line}
use Rattle.pb_amo.specs.ProductSteps.{row_of, column_of}
use Rattle.pb_amo.specs.inner.Source.{source_literals}
use Rattle.pb_amo.proofs.GridPieces.{row_steps, column_steps}
use Rattle.pb_amo.proofs.lines.LinesPieces.derive_one.Goals as goal

pub returns-then-number-rows : goal.returns-then-number-rows
returns-then-number-rows g c =
    let grid = c.args.self.now.grid in
    let k = c.args.number in
    let q = grid.sides.columns in
    let old = g.T.StepSink.state c.args.sink.now in
    steps_same c.derive_line.result _ _ old (g.T.StepSink.state c.derive_line.new.sink)
    (row_steps (source_literals grid.literals) grid.first grid.sides.rows q k old.next _ (omega arith) (ap (λ (l : Lit). l.var) c.fresh_at-var.ensures))
    (c.derive_line.ensures (in_line (row_of q) k) c.across.ensures)

pub returns-else-number-rows : goal.returns-else-number-rows
returns-else-number-rows g c =
    let grid = c.args.self.now.grid in
    let k = c.args.number in
    let r = grid.sides.rows in
    let q = grid.sides.columns in
    let old = g.T.StepSink.state c.args.sink.now in
    steps_same c.derive_line-else-number-rows.result _ _ old (g.T.StepSink.state c.derive_line-else-number-rows.new.sink)
    (column_steps (source_literals grid.literals) grid.first r q k old.next _ (omega arith) (ap (λ (l : Lit). l.var) c.fresh_at-var.ensures))
    (c.derive_line-else-number-rows.ensures (in_line (column_of q) (k - r)) c.down.ensures)
