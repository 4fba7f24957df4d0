use Rattle.std.proofs.Common.{rules}
use Rattle.pbcnf_c.proofs.Bounded.{next}
use Rattle.pbcnf_c.proofs.bounds.rows_of.Goals as goal

pub loop-row-preserved : goal.loop-row-preserved
loop-row-preserved c =
    next c.args.rows.now c.loop-row.row-index c.row-item.result c.loop-row.given.items _ c.row_of.result c.loop-row-test.true (search rules) c.loop-row.invariant c.row_of.ensures c.in_ok-push.ensures.items
