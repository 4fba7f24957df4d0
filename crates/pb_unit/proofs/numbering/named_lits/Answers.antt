use Rattle.std.proofs.Common.{arith}
use Rattle.pb_unit.specs.Renaming.{name_at, renamed_lit}
use Rattle.pb_unit.proofs.Pushed.{map_next}
use Rattle.pb_unit.proofs.numbering.named_lits.Goals as goal

pub loop-lit-preserved : goal.loop-lit-preserved
loop-lit-preserved c =
    map_next (renamed_lit (name_at c.args.names.now)) c.args.lits.now c.loop-lit.lit-index c.lit-item.result c.loop-lit.made.items c.push.new.self.items c.original_literal.result (omega arith) c.lit-item.is c.loop-lit.invariant c.in_ok-push.ensures.items
    c.original_literal.ensures
