use Rattle.std.proofs.Common.{refl, sym}
use Rattle.pb_columns.proofs.Conditioned.{plain}
use Rattle.pb_columns.proofs.posing.posed.Goals as goal

pub returns-then-are_plain : goal.returns-then-are_plain
returns-then-are_plain c = sym (plain c.args.sums.now c.args.statements (c.if-are_plain.ensures refl))
