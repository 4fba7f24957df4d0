use Rattle.std.proofs.Common.{take}
use Rattle.pbcnf_c.specs.Bounds.{TellRows}
use Rattle.pbcnf_c.proofs.bounds.rows_of.Given as goal

abbrev pub invariant-loop-row : goal.invariant-loop-row
invariant-loop-row l = TellRows (take l.row-index l.rows) l.given.items
