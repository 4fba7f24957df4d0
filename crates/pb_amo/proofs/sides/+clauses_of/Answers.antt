use Rattle.std.proofs.Common.{sym, ◌∙◌, arith}
use Rattle.pb_amo.specs.laws.GridCounts.{count_leaf}
use Rattle.pb_amo.proofs.sides.+clauses_of.Goals as goal

pub returns-then-count-le4 : goal.returns-then-count-le4
returns-then-count-le4 t c = c.pairs_of.ensures ∙ sym (count_leaf c.args.count c.args.count (omega arith))
