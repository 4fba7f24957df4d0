use Rattle.std.proofs.Common.{◌<◌, arith}
use Rattle.pb_gentot.specs.BoundTable.{table_fresh}
use Rattle.pb_encode.specs.Tables.{table_terms}
use Rattle.pb_encode.proofs.table.table_within.Goals as goal

pub returns : goal.returns
returns c = rw c.in-Fits.is at c.in_ok-built.ensures.terms

pub unreachable-requires : goal.unreachable-requires
unreachable-requires c =
    let over : c.args.options.now.budget < table_fresh (table_terms c.args.options.now c.args.problem.now) = rw c.in-Over.is at c.in_ok-built.ensures.over in
    omega (arith, over, c.requires.bounds)
