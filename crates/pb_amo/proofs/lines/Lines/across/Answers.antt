use Rattle.std.proofs.Common.{length}
use Rattle.pb_amo.specs.inner.Source.{source_literals}
use Rattle.pb_amo.proofs.Visited.{row_line}
use Rattle.pb_amo.proofs.lines.Lines.across.Goals as goal

pub returns : goal.returns
returns c =
    let grid = c.args.self.now.grid in
    row_line grid.sides.columns c.args.row (length (source_literals grid.literals)) grid.some
