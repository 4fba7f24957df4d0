use Rattle.std.proofs.Common.{length}
use Rattle.pb_amo.specs.inner.Source.{source_literals}
use Rattle.pb_amo.proofs.Visited.{column_line}
use Rattle.pb_amo.proofs.lines.Lines.down.Goals as goal

pub returns : goal.returns
returns c =
    let grid = c.args.self.now.grid in
    column_line grid.sides.columns grid.sides.rows c.args.column (length (source_literals grid.literals)) grid.some c.requires grid.covered
