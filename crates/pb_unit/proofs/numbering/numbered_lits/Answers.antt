use Rattle.std.proofs.Common.{arith, subst, sym}
use Rattle.std.specs.Prelude.{Contains}
use Rattle.pb_unit.specs.Reaching.{OfLit}
use Rattle.pb_unit.specs.Renaming.{number_in, renamed_lit}
use Rattle.pb_unit.proofs.Pushed.{map_next}
use Rattle.pb_unit.proofs.numbering.numbered_lits.Goals as goal

pub numbered_literal-requires : goal.numbered_literal-requires
numbered_literal-requires c = subst (OfLit (Contains c.args.names.now)) (sym c.lit-item.is) (c.requires c.loop-lit.lit-index c.lit-item.result (omega arith))

pub loop-lit-preserved : goal.loop-lit-preserved
loop-lit-preserved c =
    map_next (renamed_lit (number_in c.args.names.now)) c.args.lits.now c.loop-lit.lit-index c.lit-item.result c.loop-lit.made.items c.push.new.self.items c.numbered_literal.result (omega arith) c.lit-item.is c.loop-lit.invariant c.in_ok-push.ensures.items
    c.numbered_literal.ensures
